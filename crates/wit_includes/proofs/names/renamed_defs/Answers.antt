use Rattle.std.proofs.Common.{◌≡◌, List, [], ◌∷◌, ◌++◌, sym, ap, ◌∙◌, subst, arith}
use Rattle.std.proofs.lemmas.List.{append_assoc, append-nil, nil_from_length}
use Rattle.wit_types.specs.declared.interface.TypeDef.{TypeDef}
use Rattle.wit_includes.specs.Included.{AreRenamedDefs, no_types, one_more}
use Rattle.wit_includes.proofs.names.renamed_defs.Goals as goal

pub loop-def-preserved : goal.loop-def-preserved
loop-def-preserved c = λ more h.
    let d : TypeDef = c.in-Some.def in
    let e : TypeDef = c.in_ok-renamed_def.field-0 in
    let all : List TypeDef = c.args.defs.items in
    let found : List TypeDef = c.loop-def.found.items in
    let grown : c.push.new.self.items ++ more ≡ found ++ e ∷ more = ap (λ (xs : List TypeDef). xs ++ more) c.in_ok-push.ensures.items ∙ append_assoc found (e ∷ []) more in
    subst (AreRenamedDefs c.args.renames.now c.args.world all) (sym grown)
    (c.loop-def.invariant (e ∷ more) (rw c.in-Some.ensures.steps.0 (one_more d e c.next.new.self.rest.items more c.in_ok-renamed_def.ensures h)))

pub returns : goal.returns
returns c = subst (AreRenamedDefs c.args.renames.now c.args.world c.args.defs.items) (append-nil c.loop-def.found.items) (c.loop-def.invariant [] (let rest = c.loop-def.def-iterator.rest in let none = c.in-None.ensures.steps.0 in let size = rest.ok.0 in rw (nil_from_length rest.items (omega (arith, none, size))) no_types))
