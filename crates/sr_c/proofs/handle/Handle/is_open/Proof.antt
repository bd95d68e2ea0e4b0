-- `is_open` compares the pointer with null.
use mathlib.Core.Path.{refl, sym}
use mathlib.Core.List.{List, [], ◌∷◌}
use mathlib.Core.Bool.{Bool}
use lib.Dec.{T, lit<}
use Rattle.std.specs.Prelude.{not}
use mir.Syntax.{named, ty_ptr}
use mir.Val.{Val, vbool, has_ty, WT}
use base.Fraction.{full_share}
use base.Logic.{guard_i}
use base.Fml.{ftrue, flft}
use contract.Running.{tables}
use contract.Monad.{fact_use}
use types.Kit.{‵, given, learn, ◌⊛◌, ◌$◌, ◌∵◌, !, qed, move, keep, use1, split, join, fsplit3, feq_i, rewrite, suffices, frame, group, done}
use types.Part.{whole, sub, look_in}
use types.Run.{stop, fld, load, of_opd, bin, un, lit, returns, enter}
use types.ByLocal.{alloc_all, pass_all, free_all, look_at, get, through, sets, is}
use denote.RattleType.{RattleType}
use denote.Laws.{shows}
use denote.Memory.{cell_at}
use denote.RawPtr.{Ptr, block_ptr, null_ptr, ptr_val, tests_null}
use denote.Ref.{MutRef, mut_vals, mut_Tells}
use denote.Signature.{plain}
use denote.Steps.{nothing, opens, closes, peeks}
use denote.Triple.Walked.{says, Stays, stay_ref, walk_of, ends_at, Goes-ref}
use Rattle.std.proofs.raw_atomic.Walks.{proved}
use Rattle.sr_c.proofs.Told.{Tells, tells}
use Rattle.sr_c.proofs.handle.Handle.TheLaws.{lowers}
use Rattle.sr_c.specs.contracts.handle.Handle as Handle
use Rattle.sr_c.specs.contracts.handle.Handle.is_open as f
use Rattle.sr_c.proofs.handle.Handle.is_open.Statement.{statement}
use Rattle.sr_c.proofs.handle.Handle.is_open.Code as code

abbrev N : RattleType
N = Handle.the_row

abbrev stayed : Stays f.ended.signature.params f.ended.kept
stayed = (stay_ref (0 ∷ []) tt (plain (λ _. N)), tt)

typed : (p : Ptr) → T (has_ty ty_ptr (ptr_val p)) × WT (ptr_val p)
typed (block_ptr b o) = (tt, tt)
typed null_ptr = (tt, record { fits = lit< tt })

pub is_open_spec : {M : Type 1} → statement M
is_open_spec 𝓤 𝓛 𝓜 𝓡 wired =
    let c = f.clauses 𝓛 𝓜.mem 𝓡.returns in let W = walk_of 𝓛 f.ended stayed c in
    proved 𝓛 f.ended stayed c 𝓜 𝓡 (Goes-ref 𝓛 1 0 tt (plain (λ _. N)), tt)
    f.Key.name code.function (code.unfolded 𝓤 𝓛.H 𝓜 𝓡 wired)
    (λ κs. (mut_vals, tt)) (λ κs. (mut_Tells (named 0) κs.0 N, tt)) (λ κs qs bounds a _ are.
    let b = a.0.ref_ptr.0 in let o = a.0.ref_ptr.1 in let h = a.0.now in let vs = mut_vals a.0 in
    let y : W.Ghost = ((κs, qs, bounds, a, (vs, tt)), tt) in
    qed 𝓛 (((‵ (flft κs.0 qs.0) ⊛ ‵ ftrue) ⊛ ‵ ((MutRef (named 0) κs.0 N).own_val a.0 vs) ⊛ ‵ ftrue) ∷ ‵ ftrue ∷ []) ∵
    split ! $ split ! $ move ! (2 ∷ []) $ split ! $ keep ! (0 ∷ 2 ∷ []) $
    enter ! _ _ _ _ _ $ alloc_all ! (λ l. pass_all ! refl ((tt, tt), tt) $
    fsplit3 ! $ move ! (1 ∷ 2 ∷ 3 ∷ []) $ opens ! tt N b o (λ us.
    move ! (1 ∷ []) $ peeks ! N _ (shows 𝓛 N) h us (λ known.
    use1 𝓛 (given (Tells h.at h.value) (‵ (N.own_val h us))) (fact_use 𝓤 (Tells h.at h.value) (tells 𝓛 h us) (guard_i 𝓤 (Tells h.at h.value) _)) $ learn ! (λ told.
    let word = lowers.val_is h us known in
    let Cell = λ (ws : List Val). ‵ (cell_at full_share N.mir ws b o) in
    let null : Bool = told.1 in
    rewrite ! 1 Cell word refl $
    -- [what the handle owns; its cell; the open borrow, in three entries]
    sets ! (of_opd ! (load ! (through ! refl (fld ! refl (stop !))) (look_in ! 1 (sub ! 0 refl (whole !))))) refl (typed h.at) $
    sets ! (is ! (bin ! (get ! refl) (lit ! tt) (tests_null h.at told.0)) told.2) refl (tt, tt) $
    sets ! (un ! (get ! refl) tt) refl (tt, tt) $
    rewrite ! 1 Cell (sym word) refl $ move ! (1 ∷ []) $ closes ! tt N h us b o $
    -- [two parts of self; the token; self's first part]
    returns ! (look_at ! 0 refl) $ free_all ! refl $ move ! (3 ∷ []) $
    suffices ! _ (ends_at 𝓛 f.ended stayed c y (vbool (not null)) (not null) (h, tt) (tt, tt)) $ says ! (told.3, refl) $
    group ! 3 $ nothing ! $ move ! (1 ∷ 0 ∷ []) $ join ! $ nothing ! $ move ! (2 ∷ 0 ∷ []) $ join ! $ frame ! $ frame ! $
    feq_i ! (List Val) (vbool (not null) ∷ []) (vbool (not null) ∷ []) refl $ done !)))))
