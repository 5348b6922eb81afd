use Rattle.reql_plan_driver.proofs.following.step.Goals as goal

pub returns-in-LookNames-clause-steps : goal.returns-in-LookNames-clause-steps
returns-in-LookNames-clause-steps g c = c.on_names.ensures.steps (g.T.Clock.told c.args.clock.now) (g.D.Dice.told c.args.dice.now)

pub returns-in-ChangeNames-clause-steps : goal.returns-in-ChangeNames-clause-steps
returns-in-ChangeNames-clause-steps g c = c.on_change.ensures.steps (g.T.Clock.told c.args.clock.now) (g.D.Dice.told c.args.dice.now)

pub returns-in-LookSlot-clause-steps : goal.returns-in-LookSlot-clause-steps
returns-in-LookSlot-clause-steps g c = c.on_look.ensures.steps (g.T.Clock.told c.args.clock.now) (g.D.Dice.told c.args.dice.now)

pub returns-in-RunSlot-clause-steps : goal.returns-in-RunSlot-clause-steps
returns-in-RunSlot-clause-steps g c = c.on_run.ensures.steps (g.T.Clock.told c.args.clock.now) (g.D.Dice.told c.args.dice.now)

pub returns-in-TellTime-clause-steps : goal.returns-in-TellTime-clause-steps
returns-in-TellTime-clause-steps g c = c.on_time.ensures.steps g.C.Engine.some_state c.args.desk.now (g.D.Dice.told c.args.dice.now)

pub returns-in-Roll-clause-steps : goal.returns-in-Roll-clause-steps
returns-in-Roll-clause-steps g c = c.on_roll.ensures.steps g.C.Engine.some_state c.args.desk.now (g.T.Clock.told c.args.clock.now)
