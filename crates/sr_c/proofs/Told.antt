-- What is owned with a handle tells whether its pointer is null.
use mathlib.Core.Path.{◌≡◌, refl, sym, subst}
use mathlib.Core.List.{List, [], ◌∷◌}
use mathlib.Core.Bool.{Bool, true, false}
use Prim.Native.Nat.{◌<◌}
use lib.Dec.{lit<}
use Rattle.std.specs.Prelude.{Option, None, Some, is_some, not}
use seplogic.Ra.Ura.{Ura}
use mir.Syntax.{ptr_eq}
use mir.Val.{Val, vbool, vnull, op2_val}
use mir.Raw.{raw as bare}
use base.Logic.{ent, fst∗, never, guard_i}
use base.Fml.{fsep}
use types.Logic.{Logic, sem}
use contract.Monad.{fact, fact_i, fact_use}
use types.Kit.{‵, given, learn, ◌$◌, ◌∵◌, !, qed, by, move, keep, use1, fsplit, fpick}
use denote.Memory.{lone}
use denote.RawPtr.{Ptr, block_ptr, null_ptr, ptr_val, in_a_block, Testable}
use Rattle.std.specs.Global.{Global}
use Rattle.std.specs.Box.Ownership.{box_owns}
use Rattle.std_heap.specs.contracts.GlobalAllocator.TheImpl.{ghosts}
use Rattle.std.proofs.GlobalToken.{dealloc_token-Testable}
use Rattle.sr_endpoint.specs.contracts.endpoint.Endpoint.{the_row}
use Rattle.sr_c.specs.Handles.{handle_owns}
use Rattle.sr_c.specs.contracts.handle.Handle as Handle

-- the pointer may be compared with null, and the comparison tells whether the handle is closed
abbrev pub Tells : Ptr → Option the_row.Denot → Type 0
Tells p o = Testable p × (y : Bool) × (op2_val ptr_eq (ptr_val p) vnull ≡ vbool y) × (not y ≡ is_some o)

module _ {M : Type 1} {𝓤 : Ura M} (𝓛 : Logic 𝓤) (alloc : Global) where
  told : (p : Ptr) (o : Option the_row.Denot) → ent 𝓤 (sem 𝓛 (handle_owns alloc p o)) (fact 𝓤 (Tells p o))
  told p None =
      qed 𝓛 (‵ (handle_owns alloc p None) ∷ []) ∵ fpick ! (λ e.
      by ! (fact_i 𝓤 (Tells p None) _ (subst (λ (q : Ptr). Tells q None) (sym e) (lit< tt, true, refl, refl))))
  told p (Some x) =
      qed 𝓛 (‵ (handle_owns alloc p (Some x)) ∷ []) ∵
      in_a_block ! p (λ q. box_owns (ghosts.dealloc_token alloc) the_row q x) (fst∗ 𝓤 (never 𝓤) (sem 𝓛 (ghosts.dealloc_token alloc (bare (lone the_row.mir)) null_ptr))) (λ b o e.
      let q : Ptr = block_ptr b o in fsplit ! $ move ! (1 ∷ []) $
      use1 𝓛 (given (Testable q) (‵ (ghosts.dealloc_token alloc (bare (lone the_row.mir)) q)))
      (fact_use 𝓤 (Testable q) (dealloc_token-Testable 𝓛 alloc (bare (lone the_row.mir)) q) (guard_i 𝓤 (Testable q) (sem 𝓛 (ghosts.dealloc_token alloc (bare (lone the_row.mir)) q)))) $ learn ! (λ t. keep ! (0 ∷ []) $
      by ! (fact_i 𝓤 (Tells p (Some x)) _ (subst (λ (r : Ptr). Tells r (Some x)) (sym e) (t, false, refl, refl)))))

module _ {M : Type 1} {𝓤 : Ura M} (𝓛 : Logic 𝓤) where
  pub tells : (h : Handle.the_row.Denot) (vs : List Val) → ent 𝓤 (sem 𝓛 (Handle.the_row.own_val h vs)) (fact 𝓤 (Tells h.at h.value))
  tells h vs = qed 𝓛 (‵ (Handle.the_row.own_val h vs) ∷ []) ∵ fsplit ! $ keep ! (1 ∷ []) $ by ! (told 𝓛 h.alloc h.at h.value)
