-- A flag and its value at the front of the words.
use Rattle.std.proofs.Common.{◌≡◌, ℕ, ◌-◌, ◌≤◌, List, [], ◌∷◌, length, get_or, take, drop, map}
use Rattle.std.proofs.Common.{refl, ap, ◌∙◌, arith}
use Rattle.std.specs.Prelude.{Ok, Err}
use Rattle.std.proofs.lemmas.List.{take_all}
use Rattle.ea_model.specs.declared.settings.Config.{Config}
use Rattle.ea_flags.specs.declared.setting.Setting.{Setting}
use Rattle.ea_flags.specs.Configs.{set_by}
use Rattle.ea_flags.specs.Flags.{Read, config_by, then_settings}

-- the rest after two words
rest_of : {A : Type 0} (a b : A) (ws : List A) → take (length (a ∷ b ∷ ws) - 2) ws ≡ ws
rest_of a b ws = take_all (length (a ∷ b ∷ ws) - 2) ws (omega arith)

-- the first two words, and what follows them
pub first_two : {A : Type 0} (f : A → List ℕ) (words : List A) (x y : A) (flag value : List ℕ)
    → 2 ≤ length words → x ≡ get_or words 0 x → y ≡ get_or words 1 y → flag ≡ f x → value ≡ f y
    → map f words ≡ flag ∷ value ∷ map f (take (length words - 2) (drop 2 words))
first_two f [] x y flag value le ex ey h k = absurd (omega arith)
first_two f (a ∷ []) x y flag value le ex ey h k = absurd (omega arith)
first_two f (a ∷ b ∷ ws) x y flag value le ex ey h k =
    let hx : flag ≡ f a = h ∙ ap f ex in
    let hy : value ≡ f b = k ∙ ap f ey in
    rw (hx, hy, rest_of a b ws) refl

-- the first setting holds before the later ones
pub set_first : (c : Config) (s : Setting) (read : Read)
    → config_by c (then_settings s read) ≡ config_by (set_by c s) read
set_first c s (Ok later) = refl
set_first c s (Err f) = refl
