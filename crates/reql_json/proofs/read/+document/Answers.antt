use Rattle.std.proofs.Common.{◌≡◌, ◌∷◌, ◌++◌, [], Ok, string_bytes, sym, ap, subst, ◌∙◌}
use Rattle.std.specs.Map.{keys_of}
use Rattle.std.specs.List.Sorted.{IsStrictlySortedBy}
use Rattle.serde_json.specs.View.{view, members_view}
use Rattle.reql_datum.specs.Answer.{◌>>=◌}
use Rattle.reql_datum.specs.Members.{text_order}
use Rattle.reql_datum.specs.View.{plain}
use Rattle.reql_json.specs.Reading.{document, members}
use Rattle.reql_json.proofs.Rising.{Entry, names, put_last, names_step, rising_names}
use Rattle.reql_json.proofs.Steps.{read_on, read_step}
use Rattle.reql_json.proofs.read.+document.Goals as goal

pub object-loop-key-preserved : goal.object-loop-key-preserved
object-loop-key-preserved t c =
    let out = c.loop-key.out in
    let e : Entry = (c.in-Some.key.now, c.in-Some.member.now) in
    let left = c.next.new.self in
    let k = string_bytes e.0 in
    let d = plain c.in_ok-datum.datum in
    let known : members (members_view c.args.held.now.entries) ≡ read_on (document (view e.1)) (λ v. (k, v)) (members (members_view left)) out = c.loop-key.invariant.rest ∙ ap (λ es. members (members_view es) >>= λ ms. Ok (out ++ ms)) c.in-Some.ensures.steps in
    let whole : keys_of out ++ k ∷ names left ≡ names c.args.held.now.entries = ap (λ es. keys_of out ++ names es) (sym c.in-Some.ensures.steps) ∙ c.loop-key.invariant.names in
    let up = subst (IsStrictlySortedBy text_order) (sym whole) (rising_names c.args.held.now.entries c.iter-key-items.ensures.ordered) in
    let last = put_last (λ x. x) out k d (names left) up in
    let added : c.put.new.self ≡ out ++ (k, d) ∷ [] = rw (c.in_ok-put.ensures.members, c.in_ok-name.ensures, c.as_str.ensures.value) last in
    record {
      rest = read_step _ (document (view e.1)) (λ v. (k, v)) (members (members_view left)) d out c.put.new.self known c.in_ok-datum.ensures added;
      names = ap (λ ms. keys_of ms ++ names left) added ∙ names_step (λ x. x) out k d (names left) ∙ whole;
    }
