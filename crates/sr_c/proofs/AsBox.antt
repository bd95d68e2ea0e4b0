-- A handle and the parts of a box own what a box at the same types owns.
use mathlib.Core.Path.{◌≡◌, refl}
use mathlib.Core.Bool.{false≢true}
use mir.Syntax.{impl, tnil, dnil}
use mathlib.Core.List.{[]}
use Rattle.std.specs.Prelude.{Option, None, Some, is_some, true}
use denote.Signature.{Slot, plain}
use Rattle.std.proofs.BoxSteps.Form.{Bx}
use Rattle.std_heap.specs.contracts.Global as Heap
use Rattle.std_heap.specs.contracts.GlobalAllocator.TheImpl.{ghosts, dict}
use Rattle.std_heap.proofs.Global.TheLaws as heap
use Rattle.sr_raw_box.specs.contracts.raw_box.RawBox as Parts
use Rattle.sr_endpoint.specs.contracts.endpoint.Endpoint as Kept
use Rattle.sr_endpoint.proofs.endpoint.Endpoint.TheLaws as kept
use Rattle.sr_c.specs.contracts.handle.Handle as Handle

abbrev pub E : Bx
E = record { row = Kept.the_row; laws = kept.the_row_laws; al = record { row = Heap.the_row; laws = heap.the_row_laws; g = ghosts; d = dict; drops = impl [] tnil dnil } }

abbrev pub FromRawBox : Slot 0
FromRawBox = plain (λ _. Parts.the_row Kept.the_row Heap.the_row ghosts)

abbrev pub FromHandle : Slot 0
FromHandle = plain (λ _. Handle.the_row)

-- what an open handle keeps
pub kept_by : {X : Type 0} (o : Option X) → is_some o ≡ true → (x : X) × (o ≡ Some x)
kept_by None e = absurd (false≢true e)
kept_by (Some x) e = (x, refl)
