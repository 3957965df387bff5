-- `vithmork::totes::vithmork_whole`: the verdict's number takes eight bytes. Assumes nothing.
use Rattle.call.proofs.Hosts.{result_fits}
use Rattle.vithmork.proofs.totes.vithmork_whole.Goals as goal

pub host_number-requires : goal.host_number-requires
host_number-requires c = rw c.solve-v.ensures.whole.hosted.returned (result_fits _ _ _ _ _)
