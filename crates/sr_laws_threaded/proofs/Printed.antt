-- Where the lines of a node stand in a report.
use Rattle.std.proofs.Common.{◌≡◌, ℕ, zero, suc, ◌+◌, List, [], ◌∷◌, ◌++◌, take, drop, Option, Some, slice_get, sym, ap, ◌∙◌, arith, append_assoc, add-one}
use Rattle.std.specs.Option.{unwrap_or}
use Rattle.sr_threaded.specs.declared.kit.NodeEnd.{NodeEnd}
use Rattle.sr_threaded_script.specs.declared.host.Host.{Host}
use Rattle.sr_threaded_script.specs.Reports.{end_lines, report_from}
use Rattle.sr_workers.specs.declared.feed.Feed.{Ghosts}

-- behind the lines of those before it come its own, and then those of the nodes behind it
pub lines_at : {feed : Ghosts Host} (first at : ℕ) (ends : List (NodeEnd Host feed)) (i : ℕ) (e : NodeEnd Host feed)
    → slice_get ends i ≡ Some e → at ≡ first + i
    → report_from first ends ≡ report_from first (take i ends) ++ (end_lines at e ++ report_from (at + 1) (drop (i + 1) ends))
lines_at first at [] i e there is = absurd cc
lines_at {feed} first at (x ∷ xs) zero e there is =
    let same : x ≡ e = ap (λ (o : Option (NodeEnd Host feed)). unwrap_or o x) there in
    let here : first ≡ at = omega (arith, is) in
    ap (λ (n : ℕ). end_lines n x ++ report_from (n + 1) xs) here ∙ ap (λ (y : NodeEnd Host feed). end_lines at y ++ report_from (at + 1) xs) same
lines_at {feed} first at (x ∷ xs) (suc i) e there is =
    let rest = lines_at (first + 1) at xs i e there (omega (arith, is)) in
    let behind : drop (i + 1) xs ≡ drop (suc i + 1) (x ∷ xs) =
    ap (λ (n : ℕ). drop n xs) (add-one i) ∙ ap (λ (n : ℕ). drop n (x ∷ xs)) (sym (add-one (suc i))) in
    ap (λ (l : List ℕ). end_lines first x ++ l) rest
    ∙ sym (append_assoc (end_lines first x) (report_from (first + 1) (take i xs)) (end_lines at e ++ report_from (at + 1) (drop (i + 1) xs)))
    ∙ ap (λ (ys : List (NodeEnd Host feed)). (end_lines first x ++ report_from (first + 1) (take i xs)) ++ (end_lines at e ++ report_from (at + 1) ys)) behind
