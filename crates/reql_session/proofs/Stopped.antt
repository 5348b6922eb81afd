-- A STOP, of a feed that waits and of one that doesn't.
use Rattle.std.proofs.Common.{◌≡◌, ℕ, Bool, true, false, cond, [], Option, Some, None, sym, subst, ◌∙◌}
use Rattle.reql_outside.specs.Tape.{Tape}
use Rattle.reql_session_spec.specs.Requests.{Answer, Last}
use Rattle.reql_session_spec.specs.Books.{Books, Open, has_token, without}
use Rattle.reql_session_spec.specs.Tasks.{Talk, Telling, Stops, at, close, stop_feed}
use Rattle.reql_session_spec.specs.declared.end.End.{End}
use Rattle.reql_session_api.specs.World.{AtWork}
use Rattle.reql_session.specs.Settling.{Settles}

abbrev pub no_more : Answer
no_more = Last [] None

abbrev pub not_waiting : ℕ → Books → Books
not_waiting token b = record b { waiting = without token b.waiting }

module _ {PL : Type 0} (k : Talk PL) where
  stops_by : (t u : Tape) (w v : AtWork) (b : Books) (token : ℕ) (f : Open) (end : Option End) (h : Bool) → h ≡ has_token token b.waiting →
      Settles k t u w v (cond h (at b (Telling token no_more (not_waiting token b) None (Some f.arms))) (close b token f.arms Stops (Some no_more))) end → Settles k t u w v (stop_feed b token (Some f)) end
  stops_by t u w v b token f end h e s = subst (λ z. Settles k t u w v (cond z (at b (Telling token no_more (not_waiting token b) None (Some f.arms))) (close b token f.arms Stops (Some no_more))) end) e s

  pub stops_idle : (t u : Tape) (w v : AtWork) (b : Books) (token : ℕ) (f : Open) (end : Option End) (h : Bool) → h ≡ has_token token b.waiting → h ≡ false → Settles k t u w v (close b token f.arms Stops (Some no_more)) end → Settles k t u w v (stop_feed b token (Some f)) end
  stops_idle t u w v b token f end h e o s = stops_by t u w v b token f end false (sym o ∙ e) s

  pub stops_waiting : (t u : Tape) (w v : AtWork) (b : Books) (token : ℕ) (f : Open) (end : Option End) (h : Bool) → h ≡ has_token token b.waiting → h ≡ true → Settles k t u w v (at b (Telling token no_more (not_waiting token b) None (Some f.arms))) end → Settles k t u w v (stop_feed b token (Some f)) end
  stops_waiting t u w v b token f end h e o s = stops_by t u w v b token f end true (sym o ∙ e) s
