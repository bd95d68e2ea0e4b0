mod CoupledLemmas
mod NoneBackLemmas
mod EachOnceLemmas
