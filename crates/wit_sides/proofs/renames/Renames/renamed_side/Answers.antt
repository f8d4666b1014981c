use Rattle.std.proofs.Common.{◌≡◌, List, [], ◌∷◌, ◌++◌, sym, ap, ◌∙◌, subst, arith}
use Rattle.std.proofs.lemmas.List.{append_assoc, append-nil, nil_from_length}
use Rattle.wit_types.specs.declared.world.WorldItem.{WorldItem}
use Rattle.wit_types.specs.declared.world_key.WorldKey.{WorldKey}
use Rattle.wit_sides.specs.Renames.{AreRenamed, no_entries, one_more}
use Rattle.wit_sides.proofs.renames.Renames.renamed_side.Goals as goal

pub loop-key-preserved : goal.loop-key-preserved
loop-key-preserved c = λ more h.
    let k = c.in_ok-renamed_key.field-0 in
    let i = c.in_ok-renamed_item.field-0 in
    let names = c.args.self.now in
    let all = c.args.entries.items in
    let found = c.loop-key.found.items in
    let grown : c.push.new.self.items ++ more ≡ found ++ (k, i) ∷ more = ap (λ (xs : List (WorldKey × WorldItem)). xs ++ more) c.in_ok-push.ensures.items ∙ append_assoc found ((k, i) ∷ []) more in
    subst (AreRenamed names all) (sym grown)
    (c.loop-key.invariant ((k, i) ∷ more) (rw c.in-Some.ensures.steps.0 (one_more c.in-Some.key k c.in-Some.item i c.next.new.self.rest.items more c.in_ok-renamed_key.ensures c.in_ok-renamed_item.ensures h)))

pub returns : goal.returns
returns c = subst (AreRenamed c.args.self.now c.args.entries.items) (append-nil c.loop-key.found.items) (c.loop-key.invariant [] (let rest = c.loop-key.key-iterator.rest in let none = c.in-None.ensures.steps.0 in let size = rest.ok.0 in rw (nil_from_length rest.items (omega (arith, none, size))) no_entries))
