use Rattle.std.proofs.Common.{◌≡◌, ◌<◌, ap, ◌∙◌, sym, subst, All}
use Rattle.ea_model.specs.declared.carriers.Kind.TheVariants.{Multi}
use Rattle.ea_model.specs.Content.{Content}
use Rattle.ea_model.specs.Instance.{Instance, content_of, employed, own_of, with_content}
use Rattle.ea_laws.specs.Kept.{ContentsApart, IsSomeones}
use Rattle.ea_employed.specs.Binned.{has_bins}
use Rattle.ea_instance.proofs.Keeping.{apart-adopted, few-adopted, kept-adopted, new-adopted}
use Rattle.ea_instance.proofs.Migrating.{migrates-no_bins}
use Rattle.ea_instance.proofs.instance.Instance.adopt.Goals as goal

as_multi : (x : Content) → x.kind ≡ Multi → record x { kind = Multi } ≡ x
as_multi x multi = ap (λ k. record x { kind = k }) (sym multi)

pub adopt-requires-clause-strategy : goal.adopt-requires-clause-strategy
adopt-requires-clause-strategy c =
    ap has_bins c.self.invariant.strategy
    ∙ migrates-no_bins c.self.inside.settings c.self.invariant.stands.orderly.kept.valid
    (subst (λ (i : Instance). 0 < i.settings.acul) (sym c.self.view_is) c.requires.migrates)

pub adopt-requires-clause-room : goal.adopt-requires-clause-room
adopt-requires-clause-room c = few-adopted _ _ _ _ _ _ _ c.self.invariant c.args.carrier
    (ap (λ i. content_of (employed i) c.args.carrier.number) c.self.view_is ∙ c.requires.new)
    (subst (λ i. All (ContentsApart c.args.carrier) (employed i)) (sym c.self.view_is)
    c.requires.apart) c.requires.laid
    (subst (λ i. IsSomeones i (own_of c.args.carrier)) (sym c.self.view_is) c.requires.someones)
    (subst (λ (i : Instance). 0 < i.settings.acul) (sym c.self.view_is) c.requires.migrates)

pub adopt-requires-clause-number : goal.adopt-requires-clause-number
adopt-requires-clause-number c = new-adopted _ _ _ _ _ _ _ c.self.invariant c.args.carrier
    (ap (λ i. content_of (employed i) c.args.carrier.number) c.self.view_is ∙ c.requires.new)
    (subst (λ i. All (ContentsApart c.args.carrier) (employed i)) (sym c.self.view_is)
    c.requires.apart) c.requires.laid
    (subst (λ i. IsSomeones i (own_of c.args.carrier)) (sym c.self.view_is) c.requires.someones)
    (subst (λ (i : Instance). 0 < i.settings.acul) (sym c.self.view_is) c.requires.migrates)

pub adopt-requires-clause-apart : goal.adopt-requires-clause-apart
adopt-requires-clause-apart c = apart-adopted _ _ _ _ _ _ _ c.self.invariant c.args.carrier
    (ap (λ i. content_of (employed i) c.args.carrier.number) c.self.view_is ∙ c.requires.new)
    (subst (λ i. All (ContentsApart c.args.carrier) (employed i)) (sym c.self.view_is)
    c.requires.apart) c.requires.laid
    (subst (λ i. IsSomeones i (own_of c.args.carrier)) (sym c.self.view_is) c.requires.someones)
    (subst (λ (i : Instance). 0 < i.settings.acul) (sym c.self.view_is) c.requires.migrates)

pub invariant_of-self : goal.invariant_of-self
invariant_of-self c = kept-adopted _ _ _ _ _ _ _ c.self.invariant c.args.carrier
    (ap (λ i. content_of (employed i) c.args.carrier.number) c.self.view_is ∙ c.requires.new)
    (subst (λ i. All (ContentsApart c.args.carrier) (employed i)) (sym c.self.view_is)
    c.requires.apart) c.requires.laid
    (subst (λ i. IsSomeones i (own_of c.args.carrier)) (sym c.self.view_is) c.requires.someones)
    (subst (λ (i : Instance). 0 < i.settings.acul) (sym c.self.view_is) c.requires.migrates) _
    (c.adopt.ensures ∙ ap (λ x. record c.self.inside.carriers {
      contents = with_content x c.self.inside.carriers.contents;
    }) (as_multi c.args.carrier c.requires.kind))
