-- What the samples of names and texts say, by computing.
use Rattle.std.specs.Prelude.{codes, refl}
use Rattle.tag.specs.Answers.Answer.{refused}
use Rattle.tag.specs.Answers.Value.{nothing, byte, name}
use Rattle.tag.specs.Components.{components, joined}
use Rattle.tag.specs.Names.{reads, tag_name}
use Rattle.reference.specs.Names.{partial_name}
use Rattle.mending.specs.Mender.{mended, mended_component, nonempty, replaced, without_lock, without_lock_up_to}
use Rattle.samples.specs.Samples.{IsSo}
use Rattle.samples.specs.Samples.Sample.{partial, text}

pub slash : IsSo (partial (codes "/") (refused 10 nothing))
unfolding partial_name tag_name reads
slash = refl

pub at_sign : IsSo (partial (codes "@") (refused 13 (name (codes "@"))))
unfolding partial_name tag_name reads
at_sign = refl

pub lock_first : IsSo (partial (codes ".lock/x") (refused 5 nothing))
unfolding partial_name tag_name reads
lock_first = refl

pub dot_and_space : IsSo (partial (codes ".a b") (refused 1 (byte 32)))
unfolding partial_name tag_name reads
dot_and_space = refl

pub locks : IsSo (text (codes "a.lock.lock") (codes "a"))
unfolding mended mended_component without_lock without_lock_up_to replaced nonempty components joined
locks = refl

pub at_lock : IsSo (text (codes "@.lock") (codes "-"))
unfolding mended mended_component without_lock without_lock_up_to replaced nonempty components joined
at_lock = refl

pub dots_lock : IsSo (text (codes "a..lock") (codes "a"))
unfolding mended mended_component without_lock without_lock_up_to replaced nonempty components joined
dots_lock = refl

pub only_lock : IsSo (text (codes ".lock") (codes "-lock"))
unfolding mended mended_component without_lock without_lock_up_to replaced nonempty components joined
only_lock = refl
