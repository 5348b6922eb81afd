use Rattle.std.proofs.Common.{◌≡◌, sym, ap, subst, ◌∙◌}
use Rattle.std.specs.Prelude.{⊤}
use Rattle.std.specs.Str.{IsUtf8}
use Rattle.json.specs.Lex.{tokens}
use Rattle.reql_read.specs.Quick.{ReadsQuery}
use Rattle.reql_read.proofs.Settled.{body_read}
use Rattle.reql_read.proofs.Straight.{was_ok}
use Rattle.reql_read.proofs.quick.quick.Goals as goal

pub returns : goal.returns
returns c =
    let body = c.args.body.now in
    let q = c.in_ok-query.query in
    let text = was_ok (λ s. (s.now ≡ body) × IsUtf8 body) _ c.from_utf8.result c.in_ok-text.text c.from_utf8.ensures.cases (sym c.ok.ensures.value ∙ c.in_ok-text.was) in
    let made = was_ok (λ ts. ts ≡ tokens c.in_ok-text.text.now) (λ e. ⊤) c.new.result c.in_ok-reader.reader c.new.ensures.ok (sym c.ok-2.ensures.value ∙ c.in_ok-reader.was) in
    let all = subst (λ ts. ReadsQuery ts q c.read_query.new.reader) (made ∙ ap tokens text.0) c.in_ok-query.ensures in
    body_read body q text.1 (subst (ReadsQuery (tokens body) q) c.in-None.ensures.value.0 all)
