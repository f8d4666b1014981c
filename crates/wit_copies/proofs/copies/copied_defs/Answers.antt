use Rattle.std.proofs.Common.{◌≡◌, ℕ, List, [], ◌∷◌, ◌++◌, ◌+◌, sym, ap, ◌∙◌, subst, drop}
use Rattle.std.proofs.lemmas.List.{append_assoc, append-nil, drop_more, drop_all}
use Rattle.wit_types.specs.declared.interface.TypeDef.{TypeDef}
use Rattle.wit_reach.proofs.Lists.{item_has}
use Rattle.wit_copies.specs.Copies.{AreCopied, no_types, one_more}
use Rattle.wit_copies.proofs.copies.copied_defs.Goals as goal

pub get-requires : goal.get-requires
get-requires c = c.requires c.id-item.result (item_has c.args.ids.now c.loop-id.id-index c.id-item.result c.loop-id-test.true c.id-item.is)

pub loop-id-preserved : goal.loop-id-preserved
loop-id-preserved c = λ more h.
    let ids : List ℕ = c.args.ids.now in
    let k : ℕ = c.loop-id.id-index in
    let i : ℕ = c.id-item.result in
    let e : TypeDef = c.in_ok-copied_def.field-0 in
    let found : List TypeDef = c.loop-id.found.items in
    let left : drop k ids ≡ i ∷ drop (k + 1) ids = drop_more ids k i c.loop-id-test.true ∙ ap (λ (z : ℕ). z ∷ drop (k + 1) ids) (sym c.id-item.is) in
    let grown : c.push.new.self.items ++ more ≡ found ++ e ∷ more = ap (λ (xs : List TypeDef). xs ++ more) c.in_ok-push.ensures.items ∙ append_assoc found (e ∷ []) more in
    subst (AreCopied c.args.copies.now c.args.from c.args.into c.args.types.now ids) (sym grown)
    (c.loop-id.invariant (e ∷ more) (subst (λ (is : List ℕ). AreCopied c.args.copies.now c.args.from c.args.into c.args.types.now is (e ∷ more)) (sym left)
    (one_more i c.get.result.now e (drop (k + 1) ids) more c.get.ensures c.in_ok-copied_def.ensures h)))

pub returns : goal.returns
returns c =
    let ids : List ℕ = c.args.ids.now in
    let none : drop c.loop-id.id-index ids ≡ [] = drop_all c.loop-id.id-index ids c.loop-id-test.false in
    subst (AreCopied c.args.copies.now c.args.from c.args.into c.args.types.now ids) (append-nil c.loop-id.found.items) (c.loop-id.invariant [] (rw none no_types))
