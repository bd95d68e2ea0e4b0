mod OneFrame
mod CutRingLemmas
mod CutLanLemmas
mod CutRingLanLemmas
mod CutTwoRingsLemmas
