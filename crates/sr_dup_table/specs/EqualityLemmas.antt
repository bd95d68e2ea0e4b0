-- Lists of sources that are tested as one are one.
use Rattle.std.proofs.Common.{◌≡◌, eqb, ◌&&◌, ap}
use Rattle.std.specs.Cmp.{IsEquivalence, decided, and_equiv, on_equiv}
use Rattle.std.specs.Cmp.Lexicographic.{pointwise, pointwise_decides}
use Rattle.std.specs.Bool.{Decides}
use Rattle.std.proofs.lemmas.Bool.Decides.{Decides-eqb, Decides-like, Decides-and}
use Rattle.sr_frame.specs.declared.fields.Mac.{Mac}
use Rattle.sr_dup_window.specs.Windows.{same_window}
use Rattle.sr_dup_window.specs.WindowLemmas.{Decides-same_window}
use Rattle.sr_dup_table.specs.Sources.{Remembered, Sources, Table, same_remembered, same_sources, same_tables}

pub Decides-heard : (a b : Remembered) → Decides (same_remembered a b) (a ≡ b)
Decides-heard a b =
    Decides-like (same_remembered a b) (λ e. λ i. record { seen = e.0 i; time = e.1 i })
    (λ e. (ap (λ (h : Remembered). h.seen) e, ap (λ (h : Remembered). h.time) e))
    (Decides-and (same_window a.seen b.seen) (eqb a.time b.time) (Decides-same_window a.seen b.seen) (Decides-eqb a.time b.time))

Decides-mac : (a b : Mac) → Decides (pointwise eqb a.0 b.0) (a ≡ b)
Decides-mac a b =
    Decides-like (pointwise eqb a.0 b.0) (λ e. λ i. record { 0 = e i }) (λ e. ap (λ (m : Mac). m.0) e)
    (pointwise_decides Decides-eqb a.0 b.0)

Decides-source : (a b : Mac × Remembered) → Decides (pointwise eqb a.0.0 b.0.0 && same_remembered a.1 b.1) (a ≡ b)
Decides-source a b =
    Decides-like (pointwise eqb a.0.0 b.0.0 && same_remembered a.1 b.1) (λ e. λ i. (e.0 i, e.1 i))
    (λ e. (ap (λ (s : Mac × Remembered). s.0) e, ap (λ (s : Mac × Remembered). s.1) e))
    (Decides-and (pointwise eqb a.0.0 b.0.0) (same_remembered a.1 b.1) (Decides-mac a.0 b.0) (Decides-heard a.1 b.1))

pub Decides-same_sources : (s t : Sources) → Decides (same_sources s t) (s ≡ t)
Decides-same_sources s t = pointwise_decides Decides-source s t

-- so the test is an equality
pub same_sources-equiv : IsEquivalence same_sources
same_sources-equiv = decided same_sources Decides-same_sources

pub same_tables-equiv : IsEquivalence same_tables
same_tables-equiv =
    and_equiv (on_equiv (λ (t : Table). t.width) (decided eqb Decides-eqb)) (on_equiv (λ (t : Table). t.sources) same_sources-equiv)
