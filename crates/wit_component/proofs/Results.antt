use Rattle.std.proofs.Common.{◌≡◌, Ok, Err, Result, IfOk, IfErr, IsErrAnd, MatchResult, sym, subst}

-- what follows from a fact on the value, if there is one
pub ok_map : {T E : Type 0} {P Q : T → Type 0} (r : Result T E) → ((x : T) → P x → Q x) → IfOk r P → IfOk r Q
ok_map (Ok x) f h = f x h
ok_map (Err e) f h = h

-- and on the error
pub err_map : {T E : Type 0} {P Q : E → Type 0} (r : Result T E) → ((e : E) → P e → Q e) → IfErr r P → IfErr r Q
err_map (Ok x) f h = h
err_map (Err e) f h = f e h

pub both_map : {T E : Type 0} {P Q : T → Type 0} {R S : E → Type 0} (r : Result T E) → ((x : T) → P x → Q x) → ((e : E) → R e → S e) → IfOk r P → IfErr r R → MatchResult r Q S
both_map (Ok x) f g h k = f x h
both_map (Err e) f g h k = g e k

-- `?` passes an error up as it is
pub moved_up : {T E : Type 0} (r : Result T E) (e : E) (P : E → Type 0) → IsErrAnd r (λ x. x ≡ e) → P e → IfErr r P
moved_up (Ok x) e P is h = absurd is
moved_up (Err x) e P is h = subst P (sym is) h
