-- A text needs only names that its scheduler holds, and takes only those that were given to it.
use Rattle.std.proofs.Common.{◌≡◌, ℕ, zero, suc, Bool, true, false, ◌&&◌, ◌||◌, ◌==◌, List, []}
use Rattle.std.proofs.Common.{◌∷◌, ◌++◌, cond, refl, sym, subst, ◌∙◌, arith}
use Rattle.std.specs.List.{list_any}
use Rattle.ea_model.specs.Trace.{BringsBefore, brings, gives_to, needs, takes}
use Rattle.ea_model.specs.declared.operations.Op.{Op}
use Rattle.ea_model.specs.declared.operations.Op.TheVariants.{Alloc, Free, Realloc, Give, Take}
use Rattle.ea_model.specs.declared.operations.Op.TheVariants.{Info, Idle}
use Rattle.ea_gen.specs.Generated.{Making, after, given_to, hand_after, operation_of}
use Rattle.ea_gen.specs.Generated.{operations_from, waiting_after}
use Rattle.ea_gen.proofs.Chosen.{IsChosen, chosen, either, in_push, in_without, is_in}
use Rattle.ea_gen.proofs.Fine.{Fine, next_fine}

same_in : (k name : ℕ) (ks : List ℕ) → (k == name) ≡ true → is_in name ks ≡ true → is_in k ks ≡ true
same_in k name ks e h = at k name (λ j. is_in j ks) e h
  where
    at : (i j : ℕ) (P : ℕ → Bool) → (i == j) ≡ true → P j ≡ true → P i ≡ true
    at i j P e h = grind arith

pub or_left : (a b : Bool) → a ≡ true → (a || b) ≡ true
or_left true b h = refl
or_left false b h = absurd cc

pub or_last : (a b : Bool) → b ≡ true → (a || b) ≡ true
or_last true b h = refl
or_last false b h = h

moved_over : (a b c : Bool) → ((a || b) || c) ≡ (a || (b || c))
moved_over true b c = refl
moved_over false b c = refl

-- what an operation needs is at hand
needs_one : (m : Making) (op : Op) (k : ℕ) → IsChosen m op → needs k op ≡ true
    → is_in k m.hand ≡ true
needs_one m (Alloc name bytes) k c e = absurd cc
needs_one m (Free name) k c e = same_in k name m.hand e c
needs_one m (Realloc old fresh bytes) k c e = absurd c
needs_one m (Give name to) k c e = same_in k name m.hand e c.0
needs_one m (Take name tries) k c e = absurd cc
needs_one m Info k c e = absurd c
needs_one m Idle k c e = absurd c

-- what is at hand after an operation was so before it, or is brought by it
hand_from : (m : Making) (op : Op) (k : ℕ) → IsChosen m op
    → is_in k (hand_after op m.hand) ≡ true → (is_in k m.hand || brings k op) ≡ true
hand_from m (Alloc name bytes) k c h = sym (moved_over (is_in k m.hand) (k == name) false)
    ∙ or_left (is_in k m.hand || (k == name)) false (sym (in_push m.hand name k) ∙ h)
hand_from m (Free name) k c h = or_left (is_in k m.hand) (brings k (Free name))
    (in_without m.hand name k h)
hand_from m (Realloc old fresh bytes) k c h = absurd c
hand_from m (Give name to) k c h = or_left (is_in k m.hand) (brings k (Give name to))
    (in_without m.hand name k h)
hand_from m (Take name tries) k c h = sym (in_push m.hand name k) ∙ h
hand_from m Info k c h = absurd c
hand_from m Idle k c h = absurd c

needed_first : (m : Making) (op o : Op) (k : ℕ) → IsChosen m op → op ≡ o → needs k o ≡ true
    → (is_in k m.hand || false) ≡ true
needed_first m op o k c e h = or_left (is_in k m.hand) false
    (needs_one m op k c (subst (λ p. needs k p ≡ true) (sym e) h))

needed_later : (m : Making) (op b : Op) (k : ℕ) (brought : Bool) → IsChosen m op → op ≡ b
    → (is_in k (hand_after op m.hand) || brought) ≡ true
    → (is_in k m.hand || (brings k b || brought)) ≡ true
needed_later m op b k brought c e h = sym (moved_over (is_in k m.hand) (brings k b) brought)
    ∙ either (((is_in k m.hand || brings k b) || brought) ≡ true)
    (is_in k (hand_after op m.hand)) brought h
    (λ t. or_left (is_in k m.hand || brings k b) brought
    (subst (λ p. (is_in k m.hand || brings k p) ≡ true) e (hand_from m op k c t)))
    (λ t. or_last (is_in k m.hand || brings k b) brought t)

-- what an operation needs is at hand at the begin, or an earlier operation brings it
needed : (left : ℕ) (m : Making) → Fine left m → (before after : List Op) (o : Op) (k : ℕ)
    → operations_from left m ≡ before ++ o ∷ after → needs k o ≡ true
    → (is_in k m.hand || list_any (brings k) before) ≡ true
needed zero m f [] rest o k e h = absurd cc
needed zero m f (b ∷ before) rest o k e h = absurd cc
needed (suc left) m f [] rest o k e h = needed_first m (operation_of m) o k
    (chosen m f.number) (cc) h
needed (suc left) m f (b ∷ before) rest o k e h = needed_later m (operation_of m) b k
    (list_any (brings k) before) (chosen m f.number) (cc)
    (needed left (after (operation_of m) m) (next_fine left m f) before rest o k (cc) h)

pub all_brought : (left : ℕ) (m : Making) → Fine left m → m.hand ≡ []
    → BringsBefore (operations_from left m)
all_brought left m f none = λ before rest o k e h.
    subst (λ ks. (is_in k ks || list_any (brings k) before) ≡ true) none
    (needed left m f before rest o k e h)

takes_one : (m : Making) (op : Op) (k : ℕ) → IsChosen m op → takes k op ≡ true
    → is_in k m.waiting ≡ true
takes_one m (Alloc name bytes) k c e = absurd cc
takes_one m (Free name) k c e = absurd cc
takes_one m (Realloc old fresh bytes) k c e = absurd cc
takes_one m (Give name to) k c e = absurd cc
takes_one m (Take name tries) k c e = same_in k name m.waiting e c.0
takes_one m Info k c e = absurd cc
takes_one m Idle k c e = absurd cc

waiting_from : (m : Making) (op : Op) (k : ℕ) → is_in k (waiting_after op m.waiting) ≡ true
    → is_in k m.waiting ≡ true
waiting_from m (Alloc name bytes) k h = h
waiting_from m (Free name) k h = h
waiting_from m (Realloc old fresh bytes) k h = h
waiting_from m (Give name to) k h = h
waiting_from m (Take name tries) k h = in_without m.waiting name k h
waiting_from m Info k h = h
waiting_from m Idle k h = h

-- what a text takes was given to its scheduler
pub all_taken : (left : ℕ) (m : Making) (k : ℕ) → Fine left m
    → list_any (takes k) (operations_from left m) ≡ true → is_in k m.waiting ≡ true
all_taken zero m k f h = absurd cc
all_taken (suc left) m k f h = either (is_in k m.waiting ≡ true) (takes k (operation_of m))
    (list_any (takes k) (operations_from left (after (operation_of m) m))) h
    (takes_one m (operation_of m) k (chosen m f.number))
    (λ t. waiting_from m (operation_of m) k
    (all_taken left (after (operation_of m) m) k (next_fine left m f) t))

given_now : (b : Bool) (k name : ℕ) (ks : List ℕ) (given : Bool)
    → is_in k (cond b (name ∷ ks) ks) ≡ true → (is_in k ks ≡ true → given ≡ true)
    → (((k == name) && b) || given) ≡ true
given_now true k name ks given h f = either ((((k == name) && true) || given) ≡ true) (k == name)
    (is_in k ks) h (λ t. or_left ((k == name) && true) given (and_true (k == name) t))
    (λ t. or_last ((k == name) && true) given (f t))
  where
    and_true : (b : Bool) → b ≡ true → (b && true) ≡ true
    and_true true t = refl
    and_true false t = absurd cc
given_now false k name ks given h f = or_last ((k == name) && false) given (f h)

turned : (i j : ℕ) → (i == j) ≡ (j == i)
turned i j = grind arith

-- a name that operations give to a scheduler is given to it by one of them
pub given_by : (i k : ℕ) (os : List Op) → is_in k (given_to i os) ≡ true
    → list_any (gives_to k i) os ≡ true
given_by i k [] h = absurd cc
given_by i k (Alloc name bytes ∷ os) h = given_by i k os h
given_by i k (Free name ∷ os) h = given_by i k os h
given_by i k (Realloc old fresh bytes ∷ os) h = given_by i k os h
given_by i k (Give name to ∷ os) h =
    subst (λ b. (((k == name) && b) || list_any (gives_to k i) os) ≡ true) (turned to i)
    (given_now (to == i) k name (given_to i os) (list_any (gives_to k i) os) h (given_by i k os))
given_by i k (Take name tries ∷ os) h = given_by i k os h
given_by i k (Info ∷ os) h = given_by i k os h
given_by i k (Idle ∷ os) h = given_by i k os h
