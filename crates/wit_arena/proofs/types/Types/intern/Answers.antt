use Rattle.std.proofs.Common.{◌≡◌, ◌∙◌, ℕ, List, Some, sym, subst, refl, length}
use Rattle.std.specs.Prelude.{slice_get}
use Rattle.indexmap.specs.IndexMap.{get}
use Rattle.wit_types.specs.declared.kind.«Type».TheVariants.{Id}
use Rattle.wit_types.specs.declared.interface.TypeDef.{TypeDef}
use Rattle.wit_arena.specs.Shape.{shape_eq, shape_of}
use Rattle.wit_arena.specs.Arena.{Interns, there, fresh}
use Rattle.wit_arena.proofs.Arenas.{lookup_alike, none_of_shape}
use Rattle.wit_arena.proofs.types.Types.intern.Goals as goal

pub returns-in-Some-clause-ok : goal.returns-in-Some-clause-ok
returns-in-Some-clause-ok c =
    let s = c.self.invariant.sound c.args.shape c.in-Some.id (sym c.known_id.ensures ∙ c.in-Some.is) in
    there c.in-Some.id s.0 (subst (λ (a : List TypeDef). slice_get a c.in-Some.id ≡ Some s.0) c.self.view_is s.1) s.2 refl

pub returns-in_ok-id-in-None-clause-ok : goal.returns-in_ok-id-in-None-clause-ok
returns-in_ok-id-in-None-clause-ok c =
    let r = c.in_ok-id-in-None.ensures.ok in
    subst (λ (i : ℕ). Interns c.args.self.now (shape_of c.args.shape) c.args.span c.remember.new.arena (Id i)) (sym r.4)
    (subst (λ (a : List TypeDef). Interns a (shape_of c.args.shape) c.args.span c.remember.new.arena (Id (length c.self.inside.arena))) c.self.view_is
    (fresh r.0 r.1 r.2 r.3
    (none_of_shape c.self.inside.arena (λ k. get shape_eq c.self.inside.known k) c.self.invariant (lookup_alike c.self.inside.known.entries) c.args.shape (sym c.known_id.ensures ∙ c.in-None.is))))
