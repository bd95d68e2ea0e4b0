use Rattle.std.proofs.Common.{◌≡◌, ℕ, List, ◌++◌, sym, ap, ◌∙◌, Some, None}
use Rattle.sr_frame.specs.View.{fields_of}
use Rattle.sr_prp_trailer.proofs.Whole.{IsTrailed-payload, last_of_trailed, parts_of_split}
use Rattle.sr_prp_trailer.proofs.reading.parted.Goals as goal

pub returns-in_err-trailer-clause-only : goal.returns-in_err-trailer-clause-only
returns-in_err-trailer-clause-only c plain t is =
    let f = fields_of c.args.frame.now in
    let w = c.in_ok-front.ensures.cases in
    let at = last_of_trailed f c.in_ok-front.front.now c.in_ok-front.last.now plain t c.args.frame.now.legal (parts_of_split f.payload _ _ _ w.0 w.1) w.2 is in
    let no : None ≡ Some t = c.in_err-trailer.ensures.only t is.seq at.1 at.2 at.0 in
    absurd cc

pub returns-clause-found : goal.returns-clause-found
returns-clause-found c =
    let f = fields_of c.args.frame.now in
    let w = c.in_ok-front.ensures.cases in
    let h = c.in_ok-trailer.ensures.found in
    IsTrailed-payload f c.in_ok-front.front.now c.in_ok-trailer.trailer c.args.frame.now.legal (parts_of_split f.payload _ _ _ w.0 w.1 ∙ ap (λ (l : List ℕ). c.in_ok-front.front.now ++ l) h.0) h.1 h.2

pub returns-clause-only : goal.returns-clause-only
returns-clause-only c plain t is =
    let f = fields_of c.args.frame.now in
    let w = c.in_ok-front.ensures.cases in
    let at = last_of_trailed f c.in_ok-front.front.now c.in_ok-front.last.now plain t c.args.frame.now.legal (parts_of_split f.payload _ _ _ w.0 w.1) w.2 is in
    let same : Some c.in_ok-trailer.trailer ≡ Some t = c.in_ok-trailer.ensures.only t is.seq at.1 at.2 at.0 in
    (sym at.3, cc)
