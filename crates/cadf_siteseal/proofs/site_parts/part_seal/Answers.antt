use Rattle.cadf_siteseal.proofs.Common.{rising_none}
use Rattle.cadf_siteseal.proofs.site_parts.part_seal.Goals as goal

pub root_of-none-requires : goal.root_of-none-requires
root_of-none-requires c = record { digests = tt; rising = rising_none }
