-- A trace with all its texts.
use Rattle.std.proofs.Common.{◌≡◌, ℕ, ◌+◌, ◌-◌, ◌≤◌, List, [], ◌∷◌, ◌++◌, map, max, refl, sym, ap}
use Rattle.std.proofs.Common.{◌∙◌, arith, append-nil}
use Rattle.std.specs.List.{flat_map}
use Rattle.std.proofs.lemmas.Grind.{flat_map-append}
use Rattle.std.proofs.lemmas.List.{map-append}
use Rattle.ea_model.specs.Lists.{Items}
use Rattle.ea_model.specs.Trace.{greatest_of, listed, plain}
use Rattle.ea_model.specs.declared.operations.Op.{Op}
use Rattle.ea_model.specs.declared.settings.Letter.{Letter}
use Rattle.ea_model.specs.declared.trace.Mode.TheVariants.{Generated}
use Rattle.ea_model.specs.declared.trace.Stop.{Stop}
use Rattle.ea_model.specs.declared.trace.Trace.{Trace}
use Rattle.ea_gen.specs.Generated.{generated, generated_trace, texts_from}
use Rattle.ea_gen.proofs.Growing.{greatest_append}

abbrev pub items_of : List (Items Op) → List (List Op)
items_of texts = map (λ text. text.items) texts

-- the greatest name of some texts and one more
pub greatest_more : (texts : List (Items Op)) (text : Items Op) (greatest name : ℕ)
    → greatest ≡ greatest_of (flat_map (λ t. t) (items_of texts))
    → name ≡ greatest_of text.items
    → max greatest name ≡ greatest_of (flat_map (λ t. t) (items_of (texts ++ text ∷ [])))
greatest_more texts text greatest name e f =
    let all : flat_map (λ t. t) (items_of (texts ++ text ∷ []))
    ≡ flat_map (λ t. t) (items_of texts) ++ text.items =
    ap (flat_map (λ t. t)) (map-append (λ (t : Items Op). t.items) texts (text ∷ []))
    ∙ flat_map-append (λ t. t) (items_of texts) (text.items ∷ [])
    ∙ ap (λ os. flat_map (λ t. t) (items_of texts) ++ os) (append-nil text.items) in
    omega (
      arith,
      ap greatest_of all,
      greatest_append (flat_map (λ t. t) (items_of texts)) text.items,
    )

relisted : (texts : List (Items Op)) → map (λ text. listed text.items) texts
    ≡ map (λ text. listed text) (items_of texts)
relisted [] = refl
relisted (text ∷ texts) = ap (λ rest. listed text.items ∷ rest) (relisted texts)

-- where no text is left, these are all
pub all_texts : (seed n count k : ℕ) (texts : List (List Op)) (given : List ℕ) → n ≤ k
    → texts ++ texts_from seed n count (n - k) (k + 1) given ≡ generated seed n count
    → texts ≡ generated seed n count
all_texts seed n count k texts given le e =
    let none : 0 ≡ n - k = omega arith in
    sym (append-nil texts)
    ∙ ap (λ j. texts ++ texts_from seed n count j (k + 1) given) none ∙ e

pub is_generated : (letter : Letter) (seed n count greatest room : ℕ) (texts : List (Items Op))
    (stops : Items Stop) → stops.items ≡ [] → items_of texts ≡ generated seed n count
    → greatest ≡ greatest_of (flat_map (λ t. t) (items_of texts))
    → plain (record {
      letter = letter;
      texts = record { items = texts; room = room };
      stops = stops;
      mode = Generated seed count;
      greatest = greatest;
    }) ≡ generated_trace letter seed n count
is_generated letter seed n count greatest room texts stops none e f =
    let made : List (List Op) → ℕ → Trace = λ ts g. record {
      letter = letter;
      texts = listed (map (λ text. listed text) ts);
      stops = listed [];
      mode = Generated seed count;
      greatest = g;
    } in
    ap (λ xs. record {
      letter = letter;
      texts = listed (map (λ text. listed text.items) texts);
      stops = listed xs;
      mode = Generated seed count;
      greatest = greatest;
    }) none
    ∙ ap (λ ts. record {
      letter = letter;
      texts = listed ts;
      stops = listed [];
      mode = Generated seed count;
      greatest = greatest;
    }) (relisted texts)
    ∙ ap (made (items_of texts)) f
    ∙ ap (λ ts. made ts (greatest_of (flat_map (λ t. t) ts))) e
