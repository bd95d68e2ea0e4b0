-- A handle may go to another thread where the node may: the block is of `Global`, which any thread may free.
use mir.Raw.{raw}
use base.Shift.{Keyless}
use denote.Memory.{lone}
use denote.RawPtr.{Ptr}
use denote.Struct.Struct.{exits_of}
use denote.Struct.Owning.{shape, fields, to}
use denote.Param.Send.{IsSend, AllSend, owning_send, struct_send, sendable}
use Rattle.std.specs.Prelude.{Option, None, Some}
use Rattle.std.specs.Global.{Global}
use Rattle.std.proofs.Crossing as heap
use Rattle.std_alloc.proofs.SendSync.{quiet, lies}
use Rattle.std_heap.proofs.Global.TheSendSync as allocator
use Rattle.sr_endpoint.specs.contracts.endpoint.Endpoint as Endpoint
use Rattle.sr_endpoint.proofs.endpoint.Endpoint.TheSendSync.{the_send as endpoint}
use Rattle.sr_c.specs.Handles.{handle_owns}
use Rattle.sr_c.specs.contracts.handle.Handle.{the_row, the_type}

keyless : (alloc : Global) (p : Ptr) (o : Option Endpoint.the_row.Denot) → Keyless (handle_owns alloc p o)
keyless alloc p None = λ _. tt
keyless alloc p (Some value) = (lies Endpoint.the_row endpoint p value, heap.frees.frees alloc (raw (lone Endpoint.the_row.mir)) p)

pub send : IsSend the_row
send =
    let all : AllSend (fields the_type) = (search sendable, (allocator.the_field_send, tt)) in
    owning_send the_type all (λ d. keyless d.alloc d.at d.value) (λ k. quiet (to the_type) (exits_of k (fields the_type)) ((struct_send (shape the_type) all).leaving k))
