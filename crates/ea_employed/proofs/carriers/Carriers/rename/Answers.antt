use Rattle.std.proofs.Common.{ap, set, sym, subst, ◌∙◌}
use Rattle.std.specs.Prelude.{IsSome}
use Rattle.ea_model.specs.Instance.{block_in, changed, figures}
use Rattle.ea_model.specs.Content.{block_at, resized, size_of}
use Rattle.ea_employed.specs.Laid.{AreLaid}
use Rattle.ea_employed.specs.Listed.{CarrierList}
use Rattle.ea_employed.proofs.Changed.{block-there}
use Rattle.ea_employed.proofs.Changing.{found-block, renaming, IsRenaming}
use Rattle.ea_employed.proofs.Counting.{figures-renamed}
use Rattle.ea_employed.proofs.Resizing.{renaming-IsListed}
use Rattle.ea_employed.proofs.carriers.Carriers.rename.Goals as goal
use Rattle.ea_employed.proofs.carriers.Carriers.rename.Goals.{After-rename}

pub rename-requires : goal.rename-requires
rename-requires c = subst (λ b. IsSome b)
    (found-block _ c.args.self.now c.args.found c.args.offset c.index_mut.result.now
    c.behind-self.inside.carrier c.behind-self.inside.kind c.self.view_is c.requires.laid
    c.requires.found c.index_mut.ensures.value c.behind-self.view_is) c.requires.block

renamed : (c : After-rename) → IsRenaming c.args.found.carrier.key.number c.args.offset
    c.args.name c.self.inside.list.items
    (set c.self.inside.list.items c.args.found.index (record c.rename.new.self {
      kind = c.behind-self.inside.kind;
    }))
renamed c = renaming _ c.args.self.now c.args.found c.args.offset c.index_mut.result.now
    c.index_mut.result.now c.self.view_is c.requires.laid c.requires.found c.requires.block
    c.index_mut.ensures.value c.index_mut.ensures.value _ _ _ c.behind-self.view_is
    c.args.name c.rename.ensures.renamed c.rename.ensures.gaps

pub invariant_of-self : goal.invariant_of-self
invariant_of-self c =
    let number = c.args.found.carrier.key.number in
    let offset = c.args.offset in
    let w = renamed (goal.at.invariant_of-self c).After-rename in
    let laid = subst (λ (l : CarrierList). AreLaid l.contents) (sym c.self.view_is)
    c.requires.laid in
    let block = block-there (λ b. IsSome b) _ number offset w.content w.there
    (subst (λ (l : CarrierList). IsSome (block_in l.contents (record {
      carrier = number;
      offset = offset;
    }))) (sym c.self.view_is) c.requires.block) in
    record {
      listed = renaming-IsListed number offset c.args.name _ _ _ _ _ _ laid w
          c.self.invariant.listed;
      room = c.self.invariant.room;
      counted =
          c.self.invariant.counted
          ∙ sym (ap figures w.is
          ∙ figures-renamed number w.content _ offset c.args.name laid w.there block);
    }

pub returns-clause-renamed : goal.returns-clause-renamed
returns-clause-renamed c =
    ap (λ cs. record {
      strategy = c.self.inside.strategy;
      units = c.self.inside.units;
      contents = cs;
    }) (renamed (goal.at.returns-clause-renamed c).After-rename).is
    ∙ ap (λ (l : CarrierList). record l {
      contents =
          changed
          (λ m. resized m c.args.offset (size_of (block_at m.blocks c.args.offset)) c.args.name)
          c.args.found.carrier.key.number l.contents;
    }) c.self.view_is

pub returns-clause-size : goal.returns-clause-size
returns-clause-size c = c.rename.ensures.size
    ∙ sym (ap size_of (found-block _ c.args.self.now c.args.found c.args.offset
    c.index_mut.result.now
    c.behind-self.inside.carrier c.behind-self.inside.kind c.self.view_is c.requires.laid
    c.requires.found c.index_mut.ensures.value c.behind-self.view_is))
