use Rattle.std.proofs.Common.{◌≡◌, List, [], length, ℕ, Option}
use Rattle.sr_capture_script.specs.declared.choice.Inlet.TheVariants.{A, B, C}
use Rattle.sr_capture_script.specs.SourceViews.{IsFed, IsSame}
use Rattle.sr_capture_script.specs.Going.{Going}
use Rattle.sr_capture_script.proofs.merge.merge.Given as goal

abbrev pub invariant-packets : goal.invariant-packets
invariant-packets g l = record {
  going : (sa sb sc : Option (List ℕ)) → IsFed g.R.Read.remaining A sa l.fn.a [] → IsFed g.R.Read.remaining B sb l.fn.b [] → IsFed g.R.Read.remaining C sc l.fn.c []
      → (is : Going g.R.Read.remaining l.choice sa sb sc l.a l.b l.c l.clock (g.W.Write.contents l.fn.writer) (g.W.Write.contents l.writer))
      × (length is.out ≡ l.counter);
  same_a : IsSame l.fn.a l.a;
  same_b : IsSame l.fn.b l.b;
  same_c : IsSame l.fn.c l.c;
}
