-- What the verdict of a page stands on: how many of what are wrong.
use Rattle.std.specs.Prelude.{List, fold}
use Rattle.sr_audit.specs.declared.side.Side.TheVariants.{A, B}
use Rattle.sr_verdict.specs.declared.verdict.Verdict.{Verdict}
use Rattle.sr_verdict.specs.declared.verdict.Verdict.TheVariants as verdict
use Rattle.sr_audit_page.specs.declared.grounds.Grounds.{Grounds}
use Rattle.sr_audit_page.specs.Sums.{together}

-- nothing is wrong
abbrev pub no_grounds : Grounds
no_grounds = record {
  both_lost = 0;
  two_senders = 0;
  cut_ring = 0;
  dead_ports = 0;
  crossed = 0;
  lost_redundancy = 0;
  lost_a = 0;
  lost_b = 0;
  wrong_lan = 0;
  misfit = 0;
  repeated = 0;
  late = 0;
  skew = 0;
}

-- with what a verdict says of a source more: frames and copies by their count, and one source more of other kinds
abbrev pub on_sources : Grounds → Verdict → Grounds
on_sources g (verdict.BothLost mac count) = record g { both_lost = together g.both_lost count }
on_sources g (verdict.TwoSenders mac time) = record g { two_senders = together g.two_senders 1 }
on_sources g (verdict.DeadPort mac row) = record g { dead_ports = together g.dead_ports 1 }
on_sources g (verdict.LostRedundancy mac lan tail) = record g { lost_redundancy = together g.lost_redundancy 1 }
on_sources g (verdict.Repeated mac sides) = record g { repeated = together g.repeated (together sides.a sides.b) }
on_sources g (verdict.Late mac count) = record g { late = together g.late count }
on_sources g (verdict.Skew mac skew most) = record g { skew = together g.skew 1 }
on_sources g other = g

-- with what it says of a LAN, or of the network, more
abbrev pub on_lans : Grounds → Verdict → Grounds
on_lans g (verdict.CutRing cut place) = record g { cut_ring = together g.cut_ring cut.frames }
on_lans g (verdict.Crossed sides names) = record g { crossed = together g.crossed (together sides.a sides.b) }
on_lans g (verdict.Loss A share others) = record g { lost_a = together g.lost_a share.frames }
on_lans g (verdict.Loss B share others) = record g { lost_b = together g.lost_b share.frames }
on_lans g (verdict.WrongLan lan count names) = record g { wrong_lan = together g.wrong_lan count }
on_lans g (verdict.Misfit lan count) = record g { misfit = together g.misfit count }
on_lans g other = g

abbrev pub grounds_with : Grounds → Verdict → Grounds
grounds_with g v = on_lans (on_sources g v) v

-- what the verdicts say is wrong
abbrev pub grounds_of : List Verdict → Grounds
grounds_of verdicts = fold grounds_with no_grounds verdicts
