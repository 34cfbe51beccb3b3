use Rattle.cadf_tool.proofs.Common.{◌≡◌, ◌<◌, ℕ, false, get_or, is_same}
use Rattle.cadf_tool.proofs.rehearse.place_of.Given as goal

-- the sites so far are not the same as this one
abbrev pub invariant-loop-place : goal.invariant-loop-place
invariant-loop-place l = (k : ℕ) → k < l.place → is_same l.site (get_or l.sites k l.site) ≡ false
