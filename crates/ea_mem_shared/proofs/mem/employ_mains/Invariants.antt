use Rattle.std.proofs.Common.{◌≡◌, ℕ, length}
use Rattle.ea_shared.specs.Carriers.{main_upto}
use Rattle.ea_mem_shared.specs.Places.{place_at}
use Rattle.ea_mem_shared.proofs.mem.employ_mains.Given as goal

abbrev pub invariant-loop-before : goal.invariant-loop-before
invariant-loop-before g l = record {
  mains : (n : ℕ) → place_at l.places n ≡ main_upto l.before n;
  count : length l.places ≡ length l.initial.places;
}
