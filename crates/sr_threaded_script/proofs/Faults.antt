-- The first fault among what workers end with.
use Rattle.std.proofs.Common.{◌≡◌, List, ◌∷◌, None, Some, ap}
use Rattle.std.specs.List.{cons_option, filter_map}
use Rattle.std.specs.Prelude.{slice_get}
use Rattle.sr_threaded.specs.declared.kit.LineEnd.{LineEnd}
use Rattle.sr_workers.specs.declared.fault.WorkerFault.{WorkerFault}
use Rattle.sr_threaded_script.specs.declared.host.Host.{Host}

-- one with a fault is the first
pub first : (x : LineEnd Host) (xs : List (LineEnd Host)) (fault : WorkerFault) → x.fault ≡ Some fault
    → slice_get (filter_map (λ (y : LineEnd Host). y.fault) (x ∷ xs)) 0 ≡ Some fault
first x xs fault is = ap (λ o. slice_get (cons_option o (filter_map (λ (y : LineEnd Host). y.fault) xs)) 0) is

-- one without is passed over
pub passed : (x : LineEnd Host) (xs : List (LineEnd Host)) → x.fault ≡ None
    → filter_map (λ (y : LineEnd Host). y.fault) (x ∷ xs) ≡ filter_map (λ (y : LineEnd Host). y.fault) xs
passed x xs none = ap (λ o. cons_option o (filter_map (λ (y : LineEnd Host). y.fault) xs)) none
