-- A block of fillers may be passed over.
use Rattle.std.proofs.Common.{[], ap, ◌∙◌, arith}
use Rattle.std.specs.Prelude.{bytes_eq}
use Rattle.protections.specs.NameEnds.{ended_key}
use Rattle.protections.proofs.EndedKey.{rest_block, rest_blocks, block_length}
use Rattle.protections.proofs.name_ends.NameEnds.past_blocks.Goals as goal

pub loop-after-smaller : goal.loop-after-smaller
loop-after-smaller g c =
    let shorter = block_length g.Self.NameEnds.stops g.Self.NameEnds.fillers 16 c.loop-after.rest.now c.in-Some.after.now c.in-Some.ensures in omega arith

pub loop-after-preserved : goal.loop-after-preserved
loop-after-preserved g c =
    rest_block g.Self.NameEnds.stops g.Self.NameEnds.fillers g.met.Self.NameEnds.apart 16 c.loop-after.rest.now c.in-Some.after.now c.in-Some.ensures
    ∙ c.loop-after.invariant

pub returns : goal.returns
returns g c =
    ap (λ rest. bytes_eq (ended_key g.Self.NameEnds.stops g.Self.NameEnds.fillers rest.now) []) c.unwrap_or.ensures
    ∙ rest_blocks g.Self.NameEnds.stops g.Self.NameEnds.fillers g.met.Self.NameEnds.apart 4 c.loop-after.rest c.past_block-2.result c.past_block-2.ensures
    ∙ c.loop-after.invariant
