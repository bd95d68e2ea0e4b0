use Rattle.std.proofs.Common.{◌∙◌, sym, ap, refl}
use Rattle.sr_dup_table.specs.ShownTables.{shown_table}
use Rattle.sr_dup_table.proofs.JoinLemmas.{refused-as}
use Rattle.sr_dup_table.proofs.table.DupTable.merge.Goals.{in-Narrow-Narrow, in-Wide-Wide, in-Narrow-Wide, in-Narrow-Wide-2}
use Rattle.sr_dup_table.proofs.table.DupTable.merge.Goals as goal

pub returns-clause-refused : goal.returns-clause-refused
returns-clause-refused c =
    elim c.match-self.branch [
      | in-Narrow-Narrow w ↦
          let arm = w.in-Narrow-Narrow in
          refused-as c.args.now (ap shown_table (sym arm.is-0) ∙ c.self.view_is) (ap shown_table (sym arm.is-1) ∙ c.other.view_is) w.result-is w.merge.ensures.refused
      | in-Wide-Wide w ↦
          let arm = w.in-Wide-Wide in
          refused-as c.args.now (ap shown_table (sym arm.is-0) ∙ c.self.view_is) (ap shown_table (sym arm.is-1) ∙ c.other.view_is) w.result-is
          w.merge-in-Wide-Wide.ensures.refused
      | in-Narrow-Wide w ↦
          let arm = w.in-Narrow-Wide in
          refused-as c.args.now (ap shown_table (sym arm.is-0) ∙ c.self.view_is) (ap shown_table (sym arm.is-1) ∙ c.other.view_is) w.result-is refl
      | in-Narrow-Wide-2 w ↦
          let arm = w.in-Narrow-Wide in
          refused-as c.args.now (ap shown_table (sym arm.is-0) ∙ c.self.view_is) (ap shown_table (sym arm.is-1) ∙ c.other.view_is) w.result-is refl
    ]
