-- One node more is reported.
use Rattle.std.proofs.Common.{◌≡◌, ◌+◌, ◌<◌, ◌≤◌, ◌++◌, ℕ, List, [], ◌∷◌, length, get_or, take, drop, None, refl, sym, ap, ◌∙◌, subst, append-nil, append_assoc}
use Rattle.std.specs.Prelude.{All, slice_get}
use Rattle.std.proofs.lemmas.List.{drop_all, drop_more}
use Rattle.std.proofs.lemmas.List.Elements.{All-more}
use Rattle.sr_threaded.specs.declared.kit.NodeEnd.{NodeEnd}
use Rattle.sr_workers.specs.declared.fault.WorkerFault.{WorkerFault}
use Rattle.sr_workers.specs.declared.feed.Feed.{Ghosts}
use Rattle.sr_threaded_script.specs.declared.host.Host.{Host}
use Rattle.sr_threaded_script.specs.Reports.{end_lines, faults_of, given_to, node_lines, report_from}

-- what was told and what is left to tell is all
pub one_more : {feed : Ghosts Host} (ends : List (NodeEnd Host feed)) (n : ℕ) (e : NodeEnd Host feed)
    (text later all : List ℕ) (given : List (List ℕ))
    → n < length ends → e ≡ get_or ends n e
    → text ++ report_from n (drop n ends) ≡ all
    → given ≡ given_to e → later ≡ text ++ node_lines n given e.settlement e.lost
    → later ++ report_from (n + 1) (drop (n + 1) ends) ≡ all
one_more ends n e text later all given in_ends e_is so_far own told =
    let es = drop (n + 1) ends in
    let at_e : drop n ends ≡ e ∷ es = drop_more ends n e in_ends ∙ ap (λ x. x ∷ es) (sym e_is) in
    let next : report_from n (drop n ends) ≡ end_lines n e ++ report_from (n + 1) es = ap (λ xs. report_from n xs) at_e in
    let lines : later ≡ text ++ end_lines n e = told ∙ ap (λ (g : List (List ℕ)). text ++ node_lines n g e.settlement e.lost) own in
    ap (λ t. t ++ report_from (n + 1) es) lines ∙ append_assoc text (end_lines n e) (report_from (n + 1) es)
    ∙ ap (λ r. text ++ r) (sym next) ∙ so_far

-- behind the last one all is told
pub all_told : {feed : Ghosts Host} (ends : List (NodeEnd Host feed)) (n : ℕ) (text all : List ℕ)
    → length ends ≤ n → text ++ report_from n (drop n ends) ≡ all → text ≡ all
all_told ends n text all behind so_far =
    sym (append-nil text) ∙ ap (λ xs. text ++ report_from n xs) (sym (drop_all n ends behind)) ∙ so_far

no_first : (xs : List WorkerFault) → slice_get xs 0 ≡ None → xs ≡ []
no_first [] none = refl
no_first (x ∷ xs) none = absurd cc

-- one node more has no fault
pub one_whole : {feed : Ghosts Host} (ends : List (NodeEnd Host feed)) (n : ℕ) (e : NodeEnd Host feed)
    → n < length ends → e ≡ get_or ends n e → All (λ x. faults_of x ≡ []) (take n ends) → slice_get (faults_of e) 0 ≡ None
    → All (λ x. faults_of x ≡ []) (take (n + 1) ends)
one_whole ends n e in_ends e_is so_far none =
    All-more (λ x. faults_of x ≡ []) ends n e in_ends so_far (subst (λ x. faults_of x ≡ []) e_is (no_first (faults_of e) none))
