-- `vithmork::floors::vithmork_site`: the verdict's number takes eight bytes. Assumes nothing.
use Rattle.site.proofs.Listed.{list-fits}
use Rattle.vithmork.proofs.floors.vithmork_site.Goals as goal

pub host_number-requires : goal.host_number-requires
host_number-requires c = rw c.solve-v.ensures.returned (list-fits _ _)
