-- The engine of each table may go to another thread, with its view and with requests on their way there, and threads may share a planner over it.
use denote.RattleType.{RattleType}
use denote.Param.Send.{IsSend, IsSync}
use denote.Param.SendFields.{as_row_send}
use Rattle.std.specs.contracts.option.Option as option
use Rattle.reql_feed_limit.specs.contracts.element.LimitStep as step
use Rattle.reql_open_feed.proofs.Sends.{open_feed_send}
use Rattle.reql_open_feed.specs.contracts.feed.OpenFeed as feed
use Rattle.reql_open_feed.specs.contracts.feed.OpenFeedFollowing.TheImpl as following
use Rattle.reql_table.proofs.Sends.{table_send}
use Rattle.reql_table.specs.contracts.table.Table as table
use Rattle.reql_table.specs.contracts.view.TableTableView.TheImpl as viewing
use Rattle.reql_core.proofs.Sends.{core_send}
use Rattle.reql_core.specs.contracts.table_core.TableCore as core
use Rattle.reql_plan_spec.specs.contracts.parts.Plan as plan
use Rattle.reql_planner.proofs.Sends.{planner_sync}
use Rattle.reql_planner.specs.contracts.course.QueryCourse as course
use Rattle.reql_planner.specs.contracts.planner.QueryPlanner as planner
use Rattle.reql_run.proofs.Courses.{plan_send, query_send}

abbrev steps : RattleType
steps = option.the_row step.the_row

abbrev pub engine : RattleType
engine = core.the_row feed.the_row steps following.ghosts

pub engine_send : IsSend engine
engine_send = core_send feed.the_row steps following.ghosts open_feed_send

pub engine_planner_sync : IsSync (planner.the_row engine)
engine_planner_sync = planner_sync engine

pub engine_view_send : IsSend table.the_row
engine_view_send = table_send

pub engine_course_send : IsSend (course.the_row table.the_row viewing.ghosts)
engine_course_send = query_send table.the_row viewing.ghosts table_send

pub engine_plan_send : IsSend plan.the_row
engine_plan_send = as_row_send plan.the_field plan_send
