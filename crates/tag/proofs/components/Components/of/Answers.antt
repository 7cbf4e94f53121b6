use Rattle.tag.proofs.OnlyComponents.{only_components}
use Rattle.tag.proofs.Parts.{are_components}
use Rattle.tag.proofs.components.Components.of.Goals as goal

pub returns-clause-components : goal.returns-clause-components
returns-clause-components c = are_components c.args.name.now

pub returns-clause-no_others : goal.returns-clause-no_others
returns-clause-no_others c = only_components c.args.name.now
