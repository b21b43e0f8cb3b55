-- The configuration after the last word is valid.
use Rattle.std.proofs.Common.{◌≡◌, ℕ, ◌<◌, ◌≤◌, Bool, true, false, refl, arith}
use Rattle.std.specs.Prelude.{◌&&◌, not, nat_le, nat_lt}
use Rattle.std.proofs.lemmas.Bool.{cond_both}
use Rattle.ea_model.specs.declared.settings.Letter.{Letter}
use Rattle.ea_model.specs.declared.settings.Letter.TheVariants.{B, D, E, H, L, R, S, T}
use Rattle.ea_model.specs.declared.settings.Strategy.TheVariants.{AoffCbf}
use Rattle.ea_model.specs.declared.settings.Settings.{Settings}
use Rattle.ea_model.specs.declared.settings.Config.{Config}
use Rattle.ea_model.specs.Settings.{IsValid, IsValidConfig, can_migrate, region_pages, settings_of}
use Rattle.ea_model.specs.Units.{pages_for}
use Rattle.ea_flags.specs.Configs.{fits, fits_all, migrating, settled}
use Rattle.ea_flags.proofs.Ranges.{HasRanges, IsRanged}

valid_of : (s : Settings) → HasRanges s → (0 < s.acul → can_migrate s.strategy ≡ true) → IsValid s
valid_of s h k = record {
  utilization = h.0;
  least_gap = h.1;
  threshold = h.2;
  smallest = h.3;
  largest = h.4;
  growth = h.5;
  main = h.6;
  depth = h.7;
  single_move = h.8;
  multi_move = h.9;
  single_shrink = h.10;
  single_shrink_units = h.11;
  migrates = k;
}

-- a strategy that stays lets carriers migrate, where they are to
stays : (s : Settings) → (nat_lt 0 s.acul && not (can_migrate s.strategy)) ≡ false → 0 < s.acul
    → can_migrate s.strategy ≡ true
stays s e lt = grind arith

migrating-IsValid : (s : Settings) → HasRanges s → IsValid (migrating s)
migrating-IsValid s h = cond_both (nat_lt 0 s.acul && not (can_migrate s.strategy))
    (record s { strategy = AoffCbf }) s IsValid
    (λ _. valid_of (record s { strategy = AoffCbf }) h (λ _. refl))
    (λ e. valid_of s h (stays s e))

-- carriers of temp_alloc don't migrate
temporary-IsValid : (s : Settings) → HasRanges s → IsValid (record s { acul = 0 })
temporary-IsValid s h = valid_of (record s { acul = 0 })
    (omega arith, h.1, h.2, h.3, h.4, h.5, h.6, h.7, h.8, h.9, h.10, h.11)
    (λ lt. absurd (omega (arith, lt)))

letters-IsValid : (c : Config) → IsRanged c → (letter : Letter)
    → IsValid (settings_of (settled c) letter)
letters-IsValid c h B = migrating-IsValid c.b h.2
letters-IsValid c h D = migrating-IsValid c.d h.3
letters-IsValid c h E = migrating-IsValid c.e h.4
letters-IsValid c h H = migrating-IsValid c.h h.5
letters-IsValid c h L = migrating-IsValid c.l h.6
letters-IsValid c h R = migrating-IsValid c.r h.7
letters-IsValid c h S = migrating-IsValid c.s h.8
letters-IsValid c h T = temporary-IsValid c.t h.9

both : (a b : Bool) → (a && b) ≡ true → (a ≡ true) × (b ≡ true)
both true b e = (refl, e)
both false b e = absurd (grind arith)

fit : {a b : ℕ} → nat_le a b ≡ true → a ≤ b
fit e = grind arith

-- what holds of each allocator, one after another, holds of each
of_letter : (c : Config) → (fits c.b (region_pages c) ≡ true) × (fits c.d (region_pages c) ≡ true)
    × (fits c.e (region_pages c) ≡ true) × (fits c.h (region_pages c) ≡ true)
    × (fits c.l (region_pages c) ≡ true) × (fits c.r (region_pages c) ≡ true)
    × (fits c.s (region_pages c) ≡ true) × (fits c.t (region_pages c) ≡ true)
    → (letter : Letter) → pages_for (settings_of c letter).mmbcs ≤ region_pages c
of_letter c h B = fit h.0
of_letter c h D = fit h.1
of_letter c h E = fit h.2
of_letter c h H = fit h.3
of_letter c h L = fit h.4
of_letter c h R = fit h.5
of_letter c h S = fit h.6
of_letter c h T = fit h.7

main_fits : (c : Config) → fits_all c ≡ true → (letter : Letter)
    → pages_for (settings_of c letter).mmbcs ≤ region_pages c
main_fits c e letter =
    let p = region_pages c in
    let b = both (fits c.b p) _ e in
    let d = both (fits c.d p) _ b.1 in
    let e = both (fits c.e p) _ d.1 in
    let h = both (fits c.h p) _ e.1 in
    let l = both (fits c.l p) _ h.1 in
    let r = both (fits c.r p) _ l.1 in
    let s = both (fits c.s p) (fits c.t p) r.1 in
    of_letter c (b.0, d.0, e.0, h.0, l.0, r.0, s.0, s.1) letter

pub settled-IsValidConfig : (c : Config) → IsRanged c → fits_all (settled c) ≡ true
    → IsValidConfig (settled c)
settled-IsValidConfig c h e = record {
  schedulers = h.0;
  space = h.1;
  settings = letters-IsValid c h;
  main_carriers = main_fits (settled c) e;
  temporary = refl;
}
