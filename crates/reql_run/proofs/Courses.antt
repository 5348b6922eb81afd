-- A request on its way may go to another thread, where the views of its tables may. `search` stops at types as deep as these, so they are shown part by part.
use denote.RattleType.{RattleType}
use denote.Param.Send.{IsSend, sendable, enum_send}
use denote.Enum.Declared.{shape}
use denote.Param.SendFields.{declared_send, as_row_send}
use Rattle.std.proofs.Crossing.{crosses}
use Rattle.reql_datum.proofs.Sends.{documents, datum_send, items_send, name_send}
use Rattle.reql_write_spec.proofs.Sends.{body_send, def_send, write_send}
use Rattle.reql_table_spec.proofs.Sends.{spec_send}
use Rattle.reql_term.proofs.op.Op.TheSendSync as op
use Rattle.reql_term.proofs.params.Params.TheSendSync as params
use Rattle.reql_term.proofs.term.Body.TheLaws.TheKnot as knot
use Rattle.reql_term.specs.declared.view.TableView.{Ghosts}
use Rattle.reql_term.specs.contracts.op.Op as op_type
use Rattle.reql_term.specs.contracts.term.Term as term
use Rattle.reql_term.specs.contracts.term.Terms as terms
use Rattle.reql_term.specs.contracts.term.TermFields as term_fields
use Rattle.reql_plan_spec.specs.contracts.parts.Plan as plan
use Rattle.reql_plan_spec.specs.contracts.parts.Prepared as prepared
use Rattle.reql_plan_spec.specs.contracts.parts.TableCmd as table_cmd
use Rattle.reql_plan_spec.specs.contracts.parts.Commanded as commanded
use Rattle.reql_plan_spec.specs.contracts.parts.Opening as opening
use Rattle.reql_write_spec.specs.contracts.command.Summary as summary
use Rattle.reql_catalog.specs.contracts.names.Names as names
use Rattle.reql_catalog.proofs.names.Names.TheSendSync as names_cross
use Rattle.reql_catalog.specs.contracts.command.CatCmd as cat_cmd
use Rattle.reql_operand.specs.contracts.world.World as world
use Rattle.reql_operand.specs.contracts.purse.Purse as purse
use Rattle.reql_operand.specs.contracts.world.Viewed as viewed
use Rattle.reql_operand.specs.contracts.world.Database as database
use Rattle.reql_plan_context.specs.contracts.holding.Held as held
use Rattle.reql_plan_context.specs.contracts.holding.Read as read
use Rattle.reql_plan_results.specs.contracts.feeds.Open as opened
use Rattle.reql_plan_changes.specs.contracts.asking.Feeding as feeding
use Rattle.reql_plan_state.specs.contracts.stage.Asked as asked
use Rattle.reql_plan_state.specs.contracts.stage.Rounds as rounds
use Rattle.reql_plan_state.specs.contracts.stage.Then as then_of
use Rattle.reql_plan_state.specs.contracts.stage.Refusal as refusal
use Rattle.reql_plan_state.specs.contracts.stage.Stage as stage
use Rattle.reql_plan.specs.contracts.course.Waiting as waiting
use Rattle.reql_plan.specs.contracts.course.Course as course
use Rattle.reql_planner.specs.contracts.course.QueryCourse as query

ruleset parts = (documents, params.the_send, params.the_sync, op.the_send, op.the_sync)

terms_send : IsSend terms.the_row
terms_send = search (sendable, crosses, knot.crosses, parts) depth 20

term_fields_send : IsSend term_fields.the_row
term_fields_send = search (sendable, crosses, knot.crosses, parts) depth 20

op_send : IsSend op_type.the_field.row
op_send = enum_send (shape op_type.the_type) (search tt depth 250)

term_send : IsSend term.the_field.row
term_send = enum_send (shape term.the_type) (
  search (sendable, crosses, datum_send) depth 12,
  (
    search (sendable, crosses, terms_send) depth 12,
    (
      search (sendable, crosses, term_fields_send) depth 12,
      (
        search (sendable, crosses) depth 12,
        (
          search (sendable, crosses) depth 12,
          (
            search (sendable, crosses, params.the_send, body_send) depth 12,
            (
              search (sendable, crosses) depth 12,
              (
                (op_send, search (sendable, crosses, terms_send, term_fields_send) depth 12),
                tt,
              ),
            ),
          ),
        ),
      ),
    ),
  ),
)

pub plan_send : IsSend plan.the_field.row
plan_send = search (sendable, crosses, name_send, body_send) depth 20

prepared_send : IsSend prepared.the_field.row
prepared_send = search (sendable, crosses, write_send) depth 20

table_cmd_send : IsSend table_cmd.the_field.row
table_cmd_send = search (sendable, crosses, name_send, def_send) depth 20

commanded_send : IsSend commanded.the_field.row
commanded_send = search (sendable, crosses, name_send, table_cmd_send) depth 20

opening_send : IsSend opening.the_field.row
opening_send = search (sendable, crosses, spec_send) depth 20

summary_send : IsSend summary.the_field.row
summary_send = search (sendable, crosses, documents) depth 20

names_send : IsSend names.the_row
names_send = names_cross.the_send

cat_cmd_send : IsSend cat_cmd.the_field.row
cat_cmd_send = search (sendable, crosses, name_send) depth 20

open_send : IsSend opened.the_field.row
open_send = search (sendable, crosses, items_send) depth 20

feeding_send : IsSend feeding.the_field.row
feeding_send = search (sendable, crosses, opening_send) depth 20

asked_send : IsSend asked.the_field.row
asked_send = search (sendable, crosses, plan_send, names_send, term_send) depth 20

rounds_send : IsSend rounds.the_field.row
rounds_send = search (sendable, crosses, datum_send, items_send, terms_send, summary_send) depth 20

then_send : IsSend then_of.the_field.row
then_send = let r = as_row_send rounds.the_field rounds_send in search (sendable, crosses) depth 20

refusal_send : IsSend refusal.the_field.row
refusal_send = search (sendable, crosses, name_send) depth 20

database_send : IsSend database.the_row
database_send = search (sendable, crosses, name_send) depth 20

purse_send : IsSend purse.the_row
purse_send = search (sendable, crosses) depth 20

module _ (V : RattleType) where
  viewed_send : IsSend V → IsSend (viewed.the_row V)
  viewed_send v = search (sendable, crosses, name_send) depth 20

  world_send : IsSend V → IsSend (world.the_row V)
  world_send v = let d = viewed_send v in search (sendable, crosses, database_send, purse_send) depth 20

  read_send : IsSend V → IsSend (read.the_field V).row
  read_send v = let d = viewed_send v in search (sendable, crosses) depth 20

  held_send : IsSend V → IsSend (held.the_field V).row
  held_send v = let w = world_send v in search (sendable, crosses, names_send, name_send) depth 20

  stage_send : IsSend V → IsSend (stage.the_field V).row
  stage_send v =
      let h = held_send v in
      let r = read_send v in
      enum_send (shape (stage.the_type V)) (
        search (sendable, crosses, asked_send) depth 12,
        (
          search (sendable, crosses, asked_send) depth 12,
          (
            search (sendable, crosses, prepared_send, items_send, then_send) depth 12,
            (
              search (sendable, crosses, then_send) depth 12,
              (
                search (sendable, crosses, cat_cmd_send) depth 12,
                (
                  search (sendable, crosses, cat_cmd_send) depth 12,
                  (
                    search (sendable, crosses, commanded_send) depth 12,
                    (
                      search (sendable, crosses, feeding_send, opening_send, open_send) depth 12,
                      (
                        search (sendable, crosses, refusal_send, open_send) depth 12,
                        tt,
                      ),
                    ),
                  ),
                ),
              ),
            ),
          ),
        ),
      )

  waiting_send : IsSend V → IsSend (waiting.the_field V).row
  waiting_send v = let s = as_row_send (stage.the_field V) (stage_send v) in search (sendable, crosses, plan_send) depth 20

  course_send : IsSend V → IsSend (course.the_row V)
  course_send v = let w = waiting_send v in search (sendable, crosses) depth 20

module _ (V : RattleType) (g : Ghosts V.Denot) where
  pub query_send : IsSend V → IsSend (query.the_row V g)
  query_send v =
      let c = course_send V v in
      declared_send (query.the_type V g) (
        search (sendable, crosses) depth 12,
        (
          search (sendable, crosses) depth 20,
          (
            search (sendable, crosses) depth 20,
            (
              search (sendable, crosses) depth 20,
              (
                search sendable,
                (
                  search sendable,
                  (
                    search (sendable, crosses) depth 12,
                    tt,
                  ),
                ),
              ),
            ),
          ),
        ),
      )
