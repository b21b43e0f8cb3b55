-- A call under the lock: what the seat may do with the ledger, and what its pass knows then.
use Rattle.std.proofs.Common.{◌≡◌, ℕ, ◌≤◌, List, [], ◌∷◌, ◌++◌, drop, length, sym}
use Rattle.std.proofs.Common.{ap, ◌∙◌, subst, refl, arith}
use Rattle.atomic_table.specs.Table.{Allows, Me, Step, rest}
use Rattle.ea_segments.specs.declared.calls.Call.{Call}
use Rattle.ea_segments.specs.declared.calls.Reply.{Reply}
use Rattle.ea_segments.specs.declared.calls.Request.{Request}
use Rattle.ea_segments.specs.declared.calls.Request.TheVariants.{Back, Take}
use Rattle.ea_segments.specs.declared.views.About.{About}
use Rattle.ea_segments.specs.declared.views.View.{View}
use Rattle.ea_segments.specs.Accounts.{Account}
use Rattle.ea_segments.specs.Histories.{IsLegal, IsSoundThroughout, calls_of}
use Rattle.ea_segments.specs.Requests.{call_of}
use Rattle.ea_segments.specs.Ruling.{IsSingle, Won, acting, carried, ends, holds, released}
use Rattle.ea_segments.specs.Seating.{Called}
use Rattle.ea_segments.proofs.Legal.{sound-throughout}
use Rattle.ea_segments.proofs.Locking.{calls-own, drop-front, may-end}

first-carried : (x y : Account) (xs ys : List (ℕ × Account)) → (0, x) ∷ xs ≡ (0, y) ∷ ys → x ≡ y
first-carried x y xs ys e = ap carried e

pub call-scheduler : (i : ℕ) (q : Request) (r : Reply) → (call_of i q r).scheduler ≡ i
call-scheduler i (Take name pages) r = refl
call-scheduler i (Back name) r = refl

-- n is the seat with the ledger, and x the ledger in it; y is what the call made of that
module _ (m n : Me Account View) (bare : m.1 ≡ []) (won : Won m n) (x y : Account)
    (slot : n.1 ≡ (0, x) ∷ rest n.1) (c : Call)
    (added : y ≡ record x { history = x.history ++ c ∷ [] })
    (number : c.scheduler ≡ (acting m.0).number) (left : 1 ≤ (acting m.0).left) where
  same : x ≡ won.account
  same = first-carried x won.account (rest n.1) m.1 (sym slot ∙ won.slots)

  abbrev me : Me Account View
  me = (n.0, (0, y) ∷ rest n.1)

  bare-rest : rest n.1 ≡ []
  bare-rest = ap rest won.slots ∙ bare

  single : IsSingle n.0
  single = subst IsSingle (sym won.view) refl

  seen : (acting n.0).seen ≡ x.history
  seen = ap (λ (u : View). (acting u).seen) won.view ∙ ap (λ (z : Account). z.history) (sym same)

  history : y.history ≡ x.history ++ c ∷ []
  history = ap (λ (z : Account). z.history) added

  pub may-give-back : (a : About) (id slots : ℕ) (st : Step Account)
      → Allows (holds a) slots id me 0 (λ _. 0) (λ _. ends st me 0)
  may-give-back a id slots st =
      may-end a n.0 single id slots st ((0, y) ∷ rest n.1) y c
      (ap (λ (xs : List (ℕ × Account)). (0, y) ∷ xs) bare-rest)
      (ap (λ (z : Account). z.pages) added ∙ ap (λ (z : Account). z.pages) same ∙ won.pages
      ∙ sym (ap (λ (u : View). (acting u).pages) won.view))
      (ap (λ (z : Account). z.most) added ∙ ap (λ (z : Account). z.most) same ∙ won.most
      ∙ sym (ap (λ (u : View). (acting u).most) won.view))
      (history ∙ ap (λ (l : List Call). l ++ c ∷ []) (sym seen))
      (number ∙ sym (ap (λ (u : View). (acting u).number) won.view))
      (omega (arith, left, ap (λ (u : View). (acting u).left) won.view))
      (ap (λ (u : View). u.holds) won.view)

  module _ (k : Me Account View) (gave : k ≡ (released n.0 (carried ((0, y) ∷ rest n.1)), []))
      (legal : IsLegal y.pages y.history) where
    is : k.0 ≡ released n.0 y
    is = ap (λ (z : Me Account View). z.0) gave

    mine : (acting k.0).mine ≡ (acting m.0).mine ++ c ∷ []
    mine = ap (λ (u : View). (acting u).mine) is
        ∙ ap (λ (l : List Call). l ++ drop (length (acting n.0).seen) y.history)
        (ap (λ (u : View). (acting u).mine) won.view)
        ∙ ap (λ (l : List Call). (acting m.0).mine ++ l)
        (ap (λ (l : List Call). drop (length l) y.history) seen
        ∙ ap (drop (length x.history)) history ∙ drop-front x.history (c ∷ []))

    pub number-after : (acting k.0).number ≡ (acting m.0).number
    number-after = ap (λ (u : View). (acting u).number) is
        ∙ ap (λ (u : View). (acting u).number) won.view

    legal-here : IsLegal (acting m.0).pages y.history
    legal-here = subst (λ p. IsLegal p y.history)
        (ap (λ (z : Account). z.pages) added ∙ ap (λ (z : Account). z.pages) same ∙ won.pages)
        legal

    pub called : Called (acting m.0) (acting k.0) c
    called = record {
      number = number-after;
      pages = ap (λ (u : View). (acting u).pages) is
          ∙ ap (λ (u : View). (acting u).pages) won.view;
      left = omega (
        arith,
        left,
        ap (λ (u : View). (acting u).left) is,
        ap (λ (u : View). (acting u).left) won.view,
      );
      between = won.front.0;
      seen = ap (λ (u : View). (acting u).seen) is ∙ history
          ∙ ap (λ (l : List Call). l ++ c ∷ [])
          (ap (λ (z : Account). z.history) same ∙ won.front.1);
      legal = subst (IsLegal (acting m.0).pages)
          (sym (ap (λ (u : View). (acting u).seen) is))
          legal-here;
      sound = subst (IsSoundThroughout (acting m.0).pages)
          (sym (ap (λ (u : View). (acting u).seen) is))
          (sound-throughout (acting m.0).pages y.history legal-here);
      mine = mine;
      all = ap (calls_of (acting m.0).number)
          (ap (λ (u : View). (acting u).seen) is ∙ history)
          ∙ calls-own (acting m.0).number x.history c number
          ∙ ap (λ (l : List Call). l ++ c ∷ [])
          (ap (λ (z : Account). calls_of (acting m.0).number z.history) same ∙ won.mine)
          ∙ sym mine;
    }
