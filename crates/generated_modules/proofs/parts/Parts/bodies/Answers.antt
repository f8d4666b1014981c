use Rattle.std.proofs.Common.{◌≡◌, ◌++◌, ◌∷◌, [], ◌<◌, ◌≤◌, ◌+◌, ◌∙◌, refl, suc, sym, ap, subst, length, map, arith, Some, List}
use Rattle.std.proofs.lemmas.List.{length-map, map_push, drop_all}
use Rattle.wasm_types.specs.Entries.{type_index_value}
use Rattle.wasm_bodies.specs.Bodies.{body_value}
use Rattle.wasm_bodies.specs.Generated.{BodyShape, body_shape}
use Rattle.generated_modules.specs.Parts.{parts_value}
use Rattle.generated_modules.specs.Shape.{IsOwn, function_at, code_at}
use Rattle.generated_modules.proofs.Owning.{Completes, Begins, completes_more, begins_more, none_here, same_length, completed, begun, no_value, value_is, value_holds}
use Rattle.generated_modules.proofs.parts.Parts.bodies.Goals as goal

pub returns-then-count-as_slice-clause-only : goal.returns-then-count-as_slice-clause-only
returns-then-count-as_slice-clause-only c bs h =
    let fs = c.args.self.now.functions.items in
    let cs = c.args.self.now.code.items in
    let same = sym (length-map fs type_index_value) ∙ same_length (parts_value c.args.self.now) bs h ∙ length-map cs (λ b. body_value b.0) in
    absurd (c.if-count-as_slice.true (ap length c.as_slice-count.ensures.value ∙ same ∙ ap length (sym c.as_slice.ensures.value)))

pub returns-in-None-clause-only : goal.returns-in-None-clause-only
returns-in-None-clause-only c bs h =
    let p = parts_value c.args.self.now in
    let k = c.loop-place.place in
    let fs : k < length p.functions = omega (arith, c.loop-place-test.true, length-map c.args.self.now.functions.items type_index_value) in
    let cs : k < length p.code = omega (arith, c.loop-place-test.true, length-map c.args.self.now.code.items (λ b. body_value b.0)) in
    absurd (none_here p k (suc k) refl fs cs (map body_shape c.loop-place.bodies.items)
    (λ b own. no_value body_shape c.in_ok-body.field-0 b c.in-None.is (c.in_ok-body.ensures.only b own)) c.loop-place.invariant.only bs h)

pub loop-place-preserved : goal.loop-place-preserved
loop-place-preserved c =
    let p = parts_value c.args.self.now in
    let k = c.loop-place.place in
    let fs : k < length p.functions = omega (arith, c.loop-place-test.true, length-map c.args.self.now.functions.items type_index_value) in
    let cs : k < length p.code = omega (arith, c.loop-place-test.true, length-map c.args.self.now.code.items (λ b. body_value b.0)) in
    let body = body_shape c.in-Some.body in
    let front = map body_shape c.loop-place.bodies.items in
    let pushed : map body_shape c.push.new.self.items ≡ front ++ body ∷ [] =
    ap (map body_shape) c.in_ok-push-in-Some.ensures.items ∙ map_push body_shape c.loop-place.bodies.items c.in-Some.body in
    let own : IsOwn p k (function_at p k) (code_at p k) body = value_holds (λ b. IsOwn p k (function_at p k) (code_at p k) (body_shape b)) c.in_ok-body.field-0 c.in-Some.body c.in-Some.is c.in_ok-body.ensures.found in
    let one = λ (b : BodyShape) (h : IsOwn p k (function_at p k) (code_at p k) b). value_is body_shape c.in_ok-body.field-0 c.in-Some.body b c.in-Some.is (c.in_ok-body.ensures.only b h) in
    let next : suc k ≡ k + 1 = omega arith in
    record {
      found = subst (λ (l : List BodyShape). Completes p (k + 1) l) (sym pushed) (completes_more p k (k + 1) next fs cs front body own c.loop-place.invariant.found);
      only = subst (λ (l : List BodyShape). Begins p (k + 1) l) (sym pushed) (begins_more p k (k + 1) next fs cs front body one c.loop-place.invariant.only);
    }

pub returns-clause-found : goal.returns-clause-found
returns-clause-found c =
    let p = parts_value c.args.self.now in
    let k = c.loop-place.place in
    let fs : length p.functions ≤ k = omega (arith, c.loop-place-test.false, length-map c.args.self.now.functions.items type_index_value) in
    let cs : length p.code ≤ k = omega (arith, c.loop-place-test.false, length-map c.args.self.now.code.items (λ b. body_value b.0)) in
    completed p k (map body_shape c.loop-place.bodies.items) (drop_all k p.functions fs) (drop_all k p.code cs) c.loop-place.invariant.found

pub returns-clause-only : goal.returns-clause-only
returns-clause-only c bs h =
    let p = parts_value c.args.self.now in
    let k = c.loop-place.place in
    let fs : length p.functions ≤ k = omega (arith, c.loop-place-test.false, length-map c.args.self.now.functions.items type_index_value) in
    let cs : length p.code ≤ k = omega (arith, c.loop-place-test.false, length-map c.args.self.now.code.items (λ b. body_value b.0)) in
    ap (λ (l : List BodyShape). Some l) (sym (begun p k (map body_shape c.loop-place.bodies.items) bs (drop_all k p.functions fs) (drop_all k p.code cs) c.loop-place.invariant.only h))
