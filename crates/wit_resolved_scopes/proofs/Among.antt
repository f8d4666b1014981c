-- The functions among members.
use Rattle.std.proofs.Common.{◌≡◌, List, [], ◌∷◌, ◌++◌, refl, ap, ◌∙◌, append-nil}
use Rattle.wit_lookups.proofs.Passed.wit_scopes-Lists.{flat_map-push}
use Rattle.wit_lookups.specs.Passed.wit_scopes-Members.{MemberKind, MemberTree, used, defined, function, method, static, constructor}
use Rattle.wit_resources.specs.Passed.wit_arena-Standing.{IsOfType}
use Rattle.wit_functions.specs.Signature.{IsFunction}
use Rattle.wit_resolved_scopes.specs.Scope.{function_of, member_function, functions_among}

pub function_alone : (k : MemberKind) (m : MemberTree) → IsFunction k → function_of k m ≡ m ∷ []
function_alone (used t n) m of = absurd of
function_alone (defined d) m of = absurd of
function_alone (function f) m of = refl
function_alone (method r f) m of = refl
function_alone (static r f) m of = refl
function_alone (constructor r ps t) m of = refl

pub no_function : (k : MemberKind) (m : MemberTree) → IsOfType k → function_of k m ≡ []
no_function (used t n) m of = refl
no_function (defined d) m of = refl
no_function (function f) m of = absurd of
no_function (method r f) m of = absurd of
no_function (static r f) m of = absurd of
no_function (constructor r ps t) m of = absurd of

pub function_pushed : (ms : List MemberTree) (m : MemberTree) → IsFunction m.kind → functions_among (ms ++ m ∷ []) ≡ functions_among ms ++ m ∷ []
function_pushed ms m of = flat_map-push member_function ms m ∙ ap (λ (ns : List MemberTree). functions_among ms ++ ns) (function_alone m.kind m of)

pub type_passed : (ms : List MemberTree) (m : MemberTree) → IsOfType m.kind → functions_among (ms ++ m ∷ []) ≡ functions_among ms
type_passed ms m of = flat_map-push member_function ms m ∙ ap (λ (ns : List MemberTree). functions_among ms ++ ns) (no_function m.kind m of) ∙ append-nil (functions_among ms)
