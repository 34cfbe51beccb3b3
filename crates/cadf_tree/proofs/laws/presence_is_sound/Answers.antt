use Rattle.cadf_tree.proofs.Showing.{presence}
use Rattle.cadf_tree.proofs.laws.presence_is_sound.Goals as goal

pub returns : goal.returns
returns c = presence
