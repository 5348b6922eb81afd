use Rattle.reql_operand.specs.Seen.{all_chosen}
use Rattle.reql_operand.specs.Tables.{seen}
use Rattle.reql_apply.proofs.operators.by_table.Goals as goal

pub returns-in-Db : goal.returns-in-Db
returns-in-Db g c calls =
    let w = seen g.V.TableView.documents g.V.TableView.indexes g.V.TableView.entries c.args.world.now in
    rw c.in-Db.is (c.db.ensures w calls (all_chosen w c.args.opts.now))

pub returns-in-Get : goal.returns-in-Get
returns-in-Get g c calls =
    let w = seen g.V.TableView.documents g.V.TableView.indexes g.V.TableView.entries c.args.world.now in
    rw c.in-Get.is (c.get.ensures calls (all_chosen w c.args.opts.now))

pub returns-in-Between : goal.returns-in-Between
returns-in-Between g c calls =
    let w = seen g.V.TableView.documents g.V.TableView.indexes g.V.TableView.entries c.args.world.now in
    rw c.in-Between.is (c.between.ensures calls)

pub returns-in-IndexList : goal.returns-in-IndexList
returns-in-IndexList g c calls =
    let w = seen g.V.TableView.documents g.V.TableView.indexes g.V.TableView.entries c.args.world.now in
    rw c.in-IndexList.is (c.array.ensures w _ (c.index_list.ensures calls (all_chosen w c.args.opts.now)))

pub returns-in-Info : goal.returns-in-Info
returns-in-Info g c calls =
    let w = seen g.V.TableView.documents g.V.TableView.indexes g.V.TableView.entries c.args.world.now in
    rw c.in-Info.is (c.one.ensures w _ (c.info.ensures calls (all_chosen w c.args.opts.now)))

pub returns-in-Config : goal.returns-in-Config
returns-in-Config g c calls =
    let w = seen g.V.TableView.documents g.V.TableView.indexes g.V.TableView.entries c.args.world.now in
    rw c.in-Config.is (c.one-in-Config.ensures w _ (c.config.ensures calls (all_chosen w c.args.opts.now)))

pub returns-in-Status : goal.returns-in-Status
returns-in-Status g c calls =
    let w = seen g.V.TableView.documents g.V.TableView.indexes g.V.TableView.entries c.args.world.now in
    rw c.in-Status.is (c.one-in-Status.ensures w _ (c.status.ensures calls (all_chosen w c.args.opts.now)))

pub returns-in-GetAll : goal.returns-in-GetAll
returns-in-GetAll g c calls =
    let w = seen g.V.TableView.documents g.V.TableView.indexes g.V.TableView.entries c.args.world.now in
    rw c.in-GetAll.is (c.get_all_rule.ensures calls)

pub returns-in-IndexStatuses : goal.returns-in-IndexStatuses
returns-in-IndexStatuses g c calls =
    let w = seen g.V.TableView.documents g.V.TableView.indexes g.V.TableView.entries c.args.world.now in
    rw c.in-IndexStatuses.is (c.array-in-IndexStatuses.ensures w _ (c.index_statuses_rule.ensures calls (all_chosen w c.args.opts.now)))
