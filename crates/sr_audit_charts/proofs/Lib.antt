pub mod HistogramLemmas
