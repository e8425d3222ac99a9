-- Facts that hold for each element of a list, for the crates above to cite.
pub use Rattle.periods.proofs.Each.{Each, stands_in, each_none, Each-cons, each_head, each_tail, each_taken, each_mapped}
