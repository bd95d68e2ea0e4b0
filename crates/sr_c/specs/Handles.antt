-- What a handle owns: nothing where it is closed, and else what a box owns.
use Rattle.std.specs.Prelude.{◌≡◌, Option, None, Some}
use base.Fml.{Fml, ftrue, fex}
use base.Stored.{Coded}
use denote.RawPtr.{Ptr, null_ptr}
use Rattle.std.specs.Box.Ownership.{box_owns}
use Rattle.std.specs.Global.{Global}
use Rattle.std_heap.specs.contracts.GlobalAllocator.TheImpl.{ghosts}
use Rattle.sr_endpoint.specs.contracts.endpoint.Endpoint.{the_row}

abbrev pub handle_owns : Global → Ptr → Option the_row.Denot → Fml
handle_owns alloc p None = fex (p ≡ null_ptr) (λ _. ftrue)
handle_owns alloc p (Some value) = box_owns (ghosts.dealloc_token alloc) the_row p value

abbrev pub endpoint_coded : Coded the_row.Denot
endpoint_coded = the_row.coded
