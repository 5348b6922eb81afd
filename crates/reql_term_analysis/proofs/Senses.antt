-- What operators denote, and what is made of a function, a key with its direction and an ERROR.
use Rattle.std.proofs.Common.{◌≡◌, ℕ, List, [], ◌∷◌, Bool, true, false, if◌then◌else◌, Option, Some, None, Ok, Err, refl, ap}
use Rattle.reql_datum.specs.Answer.{Answer, ◌>>=◌}
use Rattle.reql_datum.specs.Plain.{Plain}
use Rattle.reql_term.specs.Table.{way_of}
use Rattle.reql_term.specs.declared.op.Op.{Op}
use Rattle.reql_term.specs.declared.role.Way.{Way}
use Rattle.reql_term.specs.declared.role.Way.TheVariants as way
use Rattle.reql_rules.specs.Faults.{misplaced}
use Rattle.reql_rules.specs.Lists.{Bytes}
use Rattle.reql_value_spec.specs.Meaning.{sense_of, sense_by, is_fit, ordered}
use Rattle.reql_value_spec.specs.Meant.{Meant, Given, given, callee, directed, late, Rule}
use Rattle.reql_value_spec.specs.Sense.{Sense, plain, func, sorter, raiser, value, argument, key_argument, option, index_option, default_option, call_of}
use Rattle.reql_value_spec.specs.Table.{rule_of}
use Rattle.reql_value_spec.specs.World.{World, Vars}
use Rattle.reql_term_analysis.specs.Kinds.{Body, body_of, shape_of, direction_of, callee_of, raising_of, given_to}

ordered_no_body : (down : Bool) (ss : List Sense) → body_of (ordered down ss) ≡ None
ordered_no_body down [] = refl
ordered_no_body down (s ∷ ss) = refl

by_no_body : (how : Way) (rule : Rule) (ss : List Sense) (os : List (Bytes × Sense)) → body_of (sense_by how rule ss os) ≡ None
by_no_body way.Strict rule ss os = refl
by_no_body way.Sorting rule ss os = refl
by_no_body way.Filtering rule ss os = refl
by_no_body way.Whole rule ss os = refl
by_no_body way.UntilTrue rule ss os = refl
by_no_body way.UntilFalse rule ss os = refl
by_no_body way.Branching rule ss os = refl
by_no_body way.Defaulting rule ss os = refl
by_no_body way.Rising rule ss os = ordered_no_body false ss
by_no_body way.Falling rule ss os = ordered_no_body true ss
by_no_body way.Raising rule ss os = refl

fit_no_body : (fit : Bool) (s : Sense) → body_of s ≡ None → body_of (if fit then s else plain (λ w vars. Err misplaced)) ≡ None
fit_no_body true s h = h
fit_no_body false s h = refl

-- no operator denotes a function
pub no_body : (op : Op) (ss : List Sense) (os : List (Bytes × Sense)) → body_of (sense_of op ss os) ≡ None
no_body op ss os = fit_no_body (is_fit op ss os) (sense_by (way_of op) (rule_of op) ss os) (by_no_body (way_of op) (rule_of op) ss os)

pair_same : (p q : Bool × Sense) → Some p ≡ Some q → p ≡ q
pair_same p q h = cc

down_same : (p q : Bool × Sense) → Some p ≡ Some q → p.0 ≡ q.0
down_same p q h = ap (λ (r : Bool × Sense). r.0) (pair_same p q h)

key_same : (p q : Bool × Sense) → Some p ≡ Some q → p.1 ≡ q.1
key_same p q h = ap (λ (r : Bool × Sense). r.1) (pair_same p q h)

pub callee_under : (s : Sense) (down : Bool) (k : Sense) → direction_of s ≡ Some (down, k) → callee_of s ≡ callee_of k
callee_under (plain f) down k h = cc
callee_under (func o f) down k h = cc
callee_under (sorter d j) down k h = let e : j ≡ k = key_same (d, j) (down, k) h in rw e
callee_under (raiser texted f) down k h = cc

pub callee_here : (s : Sense) → direction_of s ≡ None → callee_of s ≡ body_of s
callee_here (plain f) h = refl
callee_here (func o f) h = refl
callee_here (sorter d j) h = cc
callee_here (raiser texted f) h = refl

pub key_under : (s : Sense) (down : Bool) (k : Sense) (at : ℕ) (w : World) (vars : Vars) → direction_of s ≡ Some (down, k) → key_argument at s w vars ≡ (argument at k w vars >>= λ g. Ok (directed down g))
key_under (plain f) down k at w vars h = cc
key_under (func o f) down k at w vars h = cc
key_under (sorter d j) down k at w vars h = let e : j ≡ k = key_same (d, j) (down, k) h in let f : d ≡ down = down_same (d, j) (down, k) h in rw (e, f)
key_under (raiser texted f) down k at w vars h = cc

pub key_here : (s : Sense) (at : ℕ) (w : World) (vars : Vars) → direction_of s ≡ None → key_argument at s w vars ≡ argument at s w vars
key_here (plain f) at w vars h = refl
key_here (func o f) at w vars h = refl
key_here (sorter d j) at w vars h = cc
key_here (raiser texted f) at w vars h = refl

pub index_under : (s : Sense) (down : Bool) (k : Sense) (w : World) (vars : Vars) → direction_of s ≡ Some (down, k) → index_option s w vars ≡ (option k w vars >>= λ g. Ok (directed down g))
index_under (plain f) down k w vars h = cc
index_under (func o f) down k w vars h = cc
index_under (sorter d j) down k w vars h = let e : j ≡ k = key_same (d, j) (down, k) h in let f : d ≡ down = down_same (d, j) (down, k) h in rw (e, f)
index_under (raiser texted f) down k w vars h = cc

pub index_here : (s : Sense) (w : World) (vars : Vars) → direction_of s ≡ None → index_option s w vars ≡ option s w vars
index_here (plain f) w vars h = refl
index_here (func o f) w vars h = refl
index_here (sorter d j) w vars h = cc
index_here (raiser texted f) w vars h = refl

pub late_under : (s : Sense) (texted : Bool) (w : World) (vars : Vars) → raising_of s ≡ Some texted → default_option s w vars ≡ Ok (late texted (value s w vars))
late_under (plain f) texted w vars h = cc
late_under (func o f) texted w vars h = cc
late_under (sorter d j) texted w vars h = cc
late_under (raiser t f) texted w vars h = let e : t ≡ texted = cc in rw e

pub late_here : (s : Sense) (w : World) (vars : Vars) → raising_of s ≡ None → default_option s w vars ≡ option s w vars
late_here (plain f) w vars h = refl
late_here (func o f) w vars h = refl
late_here (sorter d j) w vars h = refl
late_here (raiser t f) w vars h = cc

shape_alone : (s : Sense) → body_of s ≡ None → shape_of s ≡ None
shape_alone (plain f) h = refl
shape_alone (func o f) h = cc
shape_alone (sorter d j) h = refl
shape_alone (raiser t f) h = refl

pub no_shape : (op : Op) (ss : List Sense) (os : List (Bytes × Sense)) → shape_of (sense_of op ss os) ≡ None
no_shape op ss os = shape_alone (sense_of op ss os) (no_body op ss os)

pub callee_argument : (s : Sense) (shaped : Bool) (at : ℕ) (w : World) (vars : Vars) → shape_of s ≡ Some shaped → argument at s w vars ≡ Ok (callee shaped at)
callee_argument (plain f) shaped at w vars h = cc
callee_argument (func o f) shaped at w vars h = let e : o ≡ shaped = cc in rw e
callee_argument (sorter d j) shaped at w vars h = cc
callee_argument (raiser t f) shaped at w vars h = cc

pub value_argument : (s : Sense) (at : ℕ) (w : World) (vars : Vars) → shape_of s ≡ None → argument at s w vars ≡ (value s w vars >>= λ m. Ok (given m))
value_argument (plain f) at w vars h = refl
value_argument (func o f) at w vars h = cc
value_argument (sorter d j) at w vars h = refl
value_argument (raiser t f) at w vars h = refl

pub call_function : (s : Sense) (f : Body) (w : World) (vars : Vars) (ds : List Plain) → callee_of s ≡ Some f → call_of s w vars ds ≡ f w vars ds
call_function (plain f) b w vars ds h = cc
call_function (func o f) b w vars ds h = let e : f ≡ b = cc in rw e
call_function (sorter d j) b w vars ds h = call_function j b w vars ds h
call_function (raiser t f) b w vars ds h = cc

pub call_other : (s : Sense) (w : World) (vars : Vars) (ds : List Plain) → callee_of s ≡ None → call_of s w vars ds ≡ Err misplaced
call_other (plain f) w vars ds h = refl
call_other (func o f) w vars ds h = cc
call_other (sorter d j) w vars ds h = call_other j w vars ds h
call_other (raiser t f) w vars ds h = refl

pub given_function : (s : Sense) (f : Body) (w : World) (vars : Vars) (ds : List Plain) → body_of s ≡ Some f → given_to s w vars ds ≡ f w vars ds
given_function (plain f) b w vars ds h = cc
given_function (func o f) b w vars ds h = let e : f ≡ b = cc in rw e
given_function (sorter d j) b w vars ds h = cc
given_function (raiser t f) b w vars ds h = cc

pub given_other : (s : Sense) (w : World) (vars : Vars) (ds : List Plain) → body_of s ≡ None → given_to s w vars ds ≡ value s w vars
given_other (plain f) w vars ds h = refl
given_other (func o f) w vars ds h = cc
given_other (sorter d j) w vars ds h = refl
given_other (raiser t f) w vars ds h = refl
