-- `vithmork::solve::vithmork_solve`: the verdict's number takes eight bytes. Assumes nothing.
use mathlib.Core.Bool.{false}
use Rattle.call.proofs.Hosts.{result_fits}
use Rattle.vithmork.proofs.solve.vithmork_solve.Goals as goal

pub host_number-requires : goal.host_number-requires
host_number-requires c = rw c.solve-v.ensures.hosted.returned (result_fits false _ _ _ _)
