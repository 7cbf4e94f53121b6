-- The first names are entered, and the iterator has the others.
use Rattle.std.proofs.Common.{◌≡◌, ◌+◌, ◌*◌, ◌≤◌, length, drop}
use Rattle.std.specs.Iterator.Adapters.{enumerate_count, enumerate_source, take_count, take_source}
use Rattle.std.specs.Slice.Iter.{chunks_exact_rest, chunks_exact_size}
use Rattle.register.specs.Registers.{state_in}
use Rattle.gushteral_c.proofs.Entering.{Entered}
use Rattle.gushteral_c.proofs.batch.enter_names.Given as goal

abbrev pub invariant-loop-index : goal.invariant-loop-index
invariant-loop-index l =
    let e = take_source l.index-iterator in
    let i = enumerate_count e in
    record {
      entered : Entered (state_in l.initial.register) l.length l.names l.initial.answers i l.answers (state_in l.register);
      size : chunks_exact_size (enumerate_source e) ≡ l.length;
      rest : chunks_exact_rest (enumerate_source e) ≡ drop (i * l.length) l.names;
      within : i * l.length ≤ length l.names;
      room : i + take_count l.index-iterator ≡ length l.initial.answers;
    }
