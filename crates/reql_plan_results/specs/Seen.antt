-- What the feeds of code stand for.
use Rattle.reql_datum.specs.View.{plain}
use Rattle.reql_plan_spec.specs.Course as c
use Rattle.reql_plan_spec.specs.Feeding as f
use Rattle.reql_plan_spec.specs.Move as m
use Rattle.reql_plan_results.specs.declared.feeds.Arm.{Arm}
use Rattle.reql_plan_results.specs.declared.feeds.Item.{Item}
use Rattle.reql_plan_results.specs.declared.feeds.Open.{Open}
use Rattle.reql_plan_results.specs.declared.feeds.Told.{Told}

abbrev pub told : Told → f.Told
told t = record { size = t.size; initial = t.initial; states = t.states; types = t.types; offsets = t.offsets; squash = t.squash }

abbrev pub opened : Open → c.Open
opened o = record { slot = o.slot; feed = o.feed; stamp = o.stamp; opening = o.opening }

abbrev pub item : Item → m.Item
item i = record { arm = i.arm; is_state = i.is_state; stamp = i.stamp; shown = plain i.shown }

abbrev pub arm : Arm → m.Arm
arm a = record { slot = a.slot; feed = a.feed; dropped = a.dropped }
