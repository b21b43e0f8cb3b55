-- A carrier that an instance gives up into a scheduler's hand, of many blocks or of one.
use Rattle.std.proofs.Common.{◌≡◌, ℕ, true, false, refl, sym, ap, ◌∙◌, subst}
use Rattle.std.specs.Prelude.{Option, None, Some, IfSome, IsSome, [], is_some}
use Rattle.ea_model.specs.declared.carriers.Kind.{Kind}
use Rattle.ea_model.specs.declared.carriers.Kind.TheVariants.{Main, Multi, Single}
use Rattle.ea_model.specs.Content.{Content, can_go}
use Rattle.ea_model.specs.Instance.{Instance, content_of, employed, has_content}
use Rattle.ea_model.proofs.Rising.{item_at-All}
use Rattle.ea_laws.specs.Kept.{IsLaidOut, IsLaidOutAlone, IsOrderly, number_of}
use Rattle.ea_laws.specs.Kinds.{is_shared}
use Rattle.ea_laws.proofs.Orderly.{employed-alone, employed-many}

-- a carrier of many blocks that isn't the main one
many-goes : (k : Kind) → is_shared k ≡ true → can_go k ≡ true → k ≡ Multi
many-goes Main shared goes = cc
many-goes Multi shared goes = refl
many-goes Single shared goes = cc

module _ (i : Instance) (order : IsOrderly i) (n : ℕ) where
  -- what holds of the carrier holds of it among those of many blocks
  pub among-many : (P : Content → Type 0) → IfSome (content_of (employed i) n) P
      → IfSome (content_of i.contents n) P
  among-many P holds = by (content_of i.contents n) refl where
    by : (o : Option Content) → content_of i.contents n ≡ o → IfSome o P
    by None q = tt
    by (Some x) q = subst (λ o. IfSome o P) (employed-many i n x order q) holds

  pub many-multi : IfSome (content_of (employed i) n) (λ c. can_go c.kind ≡ true)
      → IfSome (content_of i.contents n) (λ c. c.kind ≡ Multi)
  many-multi goes = by (content_of i.contents n) refl where
    by : (o : Option Content) → content_of i.contents n ≡ o → IfSome o (λ c. c.kind ≡ Multi)
    by None q = tt
    by (Some x) q = many-goes x.kind
        (item_at-All number_of IsLaidOut n x i.contents order.laid q).shared
        (subst (λ o. IfSome o (λ c. can_go c.kind ≡ true)) (employed-many i n x order q) goes)

  -- or it is one of one block
  module _ (none : has_content n i.contents ≡ false) where
    not-many : content_of i.contents n ≡ None
    not-many = by (content_of i.contents n) refl where
      by : (o : Option Content) → content_of i.contents n ≡ o → o ≡ None
      by None q = refl
      by (Some x) q = absurd (let no : true ≡ false = sym (ap is_some q) ∙ none in cc)

    pub as-alone : content_of (employed i) n ≡ content_of i.singles n
    as-alone = employed-alone i n not-many

    pub alone-there : has_content n (employed i) ≡ true → IsSome (content_of i.singles n)
    alone-there there = subst IsSome as-alone there

    pub alone-gone : IfSome (content_of (employed i) n) (λ c. c.kind ≡ Single → c.blocks ≡ [])
        → IfSome (content_of i.singles n) (λ c. c.blocks ≡ [])
    alone-gone gone = by (content_of i.singles n) refl where
      by : (o : Option Content) → content_of i.singles n ≡ o → IfSome o (λ c. c.blocks ≡ [])
      by None q = tt
      by (Some x) q =
          let alone = item_at-All number_of IsLaidOutAlone n x i.singles order.alone q in
          subst (λ o. IfSome o (λ c. c.kind ≡ Single → c.blocks ≡ [])) (as-alone ∙ q) gone
          alone.single
