-- What the mender wrote has the laws of the mended text.
use Rattle.std.proofs.Common.{◌≡◌, ◌≤◌, refl}
use Rattle.tag.specs.Answers.Answer.{allowed}
use Rattle.mending.specs.Mender.{mended, room}
use Rattle.mending.proofs.Laws.{mended_short}
use Rattle.mending.proofs.Written.{made_text}
use Rattle.reference.specs.Names.{partial_name}
use Rattle.reference.proofs.Handles.{mended_allowed, allowed_unchanged, mended_twice}
use Rattle.reference.proofs.name_partial_or_sanitize.Goals as goal

pub returns : goal.returns
returns c =
    let s = c.args.input.now in
    let m = c.mend.ensures in
    record {
      answer = m.answer;
      buffer = m.buffer;
      text = made_text (mended s) s c.args.out.now (λ n t. t ≡ mended s) refl c.mend.result c.mend.new.out m.answer m.buffer;
      mends = m.mends;
      no_other = m.no_other;
      always_allowed = made_text (mended s) s c.args.out.now (λ n t. partial_name t ≡ allowed) (mended_allowed s) c.mend.result c.mend.new.out m.answer m.buffer;
      no_longer = made_text (mended s) s c.args.out.now (λ n t. n ≤ room s) (mended_short s) c.mend.result c.mend.new.out m.answer m.buffer;
      allowed_stays = λ h. made_text (mended s) s c.args.out.now (λ n t. t ≡ s) (allowed_unchanged s h) c.mend.result c.mend.new.out m.answer m.buffer;
      mended_again = made_text (mended s) s c.args.out.now (λ n t. mended t ≡ t) (mended_twice s) c.mend.result c.mend.new.out m.answer m.buffer;
      mended_twice = mended_twice s;
    }
