-- A session that was served is complete, a valid input closes it, and its feeds are fed.
use Rattle.std.proofs.Common.{◌≡◌, ◌<◌, ◌^◌, ℕ, ℤ, List, arith}
use Rattle.reql_outside.specs.Source.{Source}
use Rattle.reql_outside.specs.Tape.{Tape}
use Rattle.reql_hall.specs.Rooms.{Closed}
use Rattle.reql_catalog.specs.declared.catalog.Catalog.{Catalog}
use Rattle.reql_catalog.specs.declared.command.CatCmd.{CatCmd}
use Rattle.reql_table_spec.specs.Limits.{usual_limits}
use Rattle.reql_table_spec.specs.Machine.{State}
use Rattle.reql_table_spec.specs.declared.command.Order.{Order}
use Rattle.reql_session_spec.specs.Session.{begun}
use Rattle.reql_session_spec.specs.Worlds.{life_of}
use Rattle.reql_session_spec.specs.declared.end.End.{End}
use Rattle.reql_query_session_spec.specs.Told.{keys_by, talk}
use Rattle.reql_query_session_spec.specs.Laws.{AllFramesHandled, AllWornLate, AllValidClose, AllFeedsHold}
use Rattle.reql_words.specs.Words.{Asks, Stdio}
use Rattle.reql_run.specs.Endings.{status_of}
use Rattle.reql_run.specs.Running.{IsServed, Serves}
use Rattle.reql_run.proofs.Closing.{closes_by}
use Rattle.reql_run.proofs.Starting.{are_good, no_feeds}

pub serves : {E NE : Type 0} (state : E → State) (known : NE → Catalog) (asked : Asks) (status : ℕ) (key password : List ℕ) (tables : List (List ℕ × List ℕ)) (clock : Source ℤ) (dice : Source (List ℕ)) (tape : Tape) (end : End) (turns : ℕ) (hall : Closed E Order State NE CatCmd Catalog)
    → AllFramesHandled → AllWornLate → AllValidClose → AllFeedsHold → asked ≡ Stdio key password tables → status ≡ status_of end → IsServed state known (keys_by key password) tables clock dice tape end turns hall
    → Serves state known asked status clock dice tape end turns hall
serves state known asked status key password tables clock dice tape end turns hall handled late closes holds asks ends served = record {
  key = key;
  password = password;
  tables = tables;
  asks = asks;
  served = served;
  ends = ends;
  complete = handled (keys_by key password) usual_limits _ _ served.served.explained.explained;
  late = late (keys_by key password) usual_limits _ _ served.served.explained.explained;
  whole = λ more frames valid last none_in none_out few.
      let x = served.served.explained in
      let small : 67108864 < 2 ^ 32 = omega arith in
      let most : 2 ^ 60 < 2 ^ 64 = omega arith in
      let c = closes (keys_by key password) usual_limits _ _ x.explained more frames small valid last in
      closes_by (talk (keys_by key password) usual_limits) (life_of x.given x.sent x.idle tape.over served.served.moments served.served.rolls turns end) more end tape.idles tape.faults_in tape.faults_out frames (begun x.explained.events) c.left
      x.idles x.faults_in x.faults_out none_in none_out most few c.first c.ends;
  fed = λ seen slot feed stamp after o n. holds (keys_by key password) usual_limits seen _ _ (λ t. are_good served.hall usual_limits.slots usual_limits.feeds usual_limits.tail t served.opens.slots) (λ t. no_feeds served.hall usual_limits.slots usual_limits.feeds usual_limits.tail t served.opens.slots) slot feed stamp after o n;
}
