-- What an arrival answers, and what it leaves of a table: an answer, a full table, or no memory.
use Rattle.std.proofs.Common.{◌≡◌, ℕ, ◌≤◌, Bool, true, false, ◌||◌, is_some, length, Option, None, Some, Result, Ok, Err, refl, sym, ap, ◌∙◌}
use Rattle.std.specs.Result.{IsErrAnd}
use Rattle.sr_frame.specs.declared.fields.Mac.{Mac}
use Rattle.sr_slots.specs.Places.{KeepsHeld}
use Rattle.sr_dup_window.specs.declared.lane_sets.Lanes.{Lanes}
use Rattle.sr_dup_table.specs.declared.fault.DupFault.{DupFault}
use Rattle.sr_dup_table.specs.declared.fault.DupFault.TheVariants.{TableFull, NoMemory}
use Rattle.sr_dup_table.specs.Sources.{Remembered, Table, is_held, is_ready, arrive_answer, arrive_fault, after_arrive}
use Rattle.sr_dup_table.specs.Arrivals.{Arrives}
use Rattle.sr_dup_table.proofs.SourceLemmas.{full_where}

-- what is ready and has no record is held
pub ready_held : (b : Bool) (o : Option Remembered) → o ≡ None → (b || is_some o) ≡ true → b ≡ true
ready_held true o none h = refl
ready_held false o none h = let bad : false ≡ true = sym (ap is_some none) ∙ h in cc

module _ (old new : Table) (src : Mac) (seq : ℕ) (lanes : Lanes) (now : ℕ) (few : length old.sources ≤ 1024) where
  abbrev said : Option Lanes
  said = arrive_answer old.width old.sources src seq lanes now

  pub arrives_ok : (fresh : Lanes) → said ≡ Some fresh → new.sources ≡ after_arrive old.width old.sources src seq lanes now → new.width ≡ old.width
      → KeepsHeld old.held new.held src → is_held new.held src ≡ false → Arrives old src seq lanes now (Ok fresh) new
  arrives_ok fresh is after width others used = record {
    answer = is;
    after = after;
    width = width;
    exact = (λ e. cc, λ e. let bad : Some fresh ≡ None = sym is ∙ (full_where old.width old.sources src seq lanes now few).1 e in cc);
    refused = tt;
    full = tt;
    only_full = λ e. let bad : Some fresh ≡ None = sym is ∙ e in cc;
    ready = λ e. tt;
    held = others;
    used = used;
    err = tt;
  }

  pub arrives_full : said ≡ None → new ≡ old → Arrives old src seq lanes now (Err TableFull) new
  arrives_full is same = record {
    answer = tt;
    after = tt;
    width = ap (λ t. t.width) same;
    exact = (λ e. (full_where old.width old.sources src seq lanes now few).0 is, λ e. refl);
    refused = sym (ap arrive_fault is);
    full = λ e. is;
    only_full = λ e. refl;
    ready = λ e. refl;
    held = tt;
    used = tt;
    err = same;
  }

  pub arrives_no_memory : (fresh : Lanes) → said ≡ Some fresh → (is_ready old.held old.sources src ≡ true → ⊥) → new ≡ old → (r : Result Lanes DupFault)
      → IsErrAnd r (λ e. e ≡ NoMemory) → Arrives old src seq lanes now r new
  arrives_no_memory fresh is unready same (Ok l) fails = absurd fails
  arrives_no_memory fresh is unready same (Err e) fails =
      let other : said ≡ None → ⊥ = λ h. (let bad : Some fresh ≡ None = sym is ∙ h in cc) in
      record {
        answer = tt;
        after = tt;
        width = ap (λ t. t.width) same;
        exact = (λ h. cc, λ h. absurd (other ((full_where old.width old.sources src seq lanes now few).1 h)));
        refused = fails ∙ sym (ap arrive_fault is);
        full = λ h. cc;
        only_full = λ h. absurd (other h);
        ready = λ h. absurd (unready h);
        held = tt;
        used = tt;
        err = same;
      }
