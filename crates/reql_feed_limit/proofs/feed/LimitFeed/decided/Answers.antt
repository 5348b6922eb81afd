use Rattle.std.proofs.Common.{List, option_map}
use Rattle.reql_datum.specs.Plain.{Plain, low}
use Rattle.reql_feed_limit.specs.Selection.{Limit}
use Rattle.reql_feed_limit.proofs.Standing.{stands_rising, stands_item, stands_installs}
use Rattle.reql_feed_limit.proofs.Next.{bounds_convex}
use Rattle.reql_feed_limit.specs.Feed.{limit_of}
use Rattle.reql_feed_limit.specs.Order.{bounds_in}
use Rattle.reql_feed_limit.specs.Seen.{seen, seen_step}
use Rattle.reql_feed_limit.proofs.Indexed.{keyed_spot}
use Rattle.reql_table.specs.Edits.{told}
use Rattle.reql_table.specs.Seen.{documents_of}
use Rattle.reql_feed_limit.specs.declared.element.LimitStep.{LimitStep}
use Rattle.reql_feed_limit.proofs.Places.{if_ok_to}
use Rattle.reql_feed_limit.proofs.Preparing.{stays_differs, exchange_differs, leave_differs}
use Rattle.reql_feed_limit.proofs.feed.LimitFeed.decided.Goals as goal

pub leaving-requires : goal.leaving-requires
leaving-requires g c = record { rising = stands_rising (limit_of c.args.self.now) (keyed_spot c.args.self.now.order.index) c.args.self.now.elements (told c.args.change.now) (documents_of c.args.after.now) c.requires.stands }

pub arriving-requires : goal.arriving-requires
arriving-requires g c = record { rising = stands_rising (limit_of c.args.self.now) (keyed_spot c.args.self.now.order.index) c.args.self.now.elements (told c.args.change.now) (documents_of c.args.after.now) c.requires.stands }

pub unmoved-requires : goal.unmoved-requires
unmoved-requires g c = record { rising = stands_rising (limit_of c.args.self.now) (keyed_spot c.args.self.now.order.index) c.args.self.now.elements (told c.args.change.now) (documents_of c.args.after.now) c.requires.stands }

pub returns-in-None-clause-item : goal.returns-in-None-clause-item
returns-in-None-clause-item g c =
    let l : Limit = limit_of c.args.self.now in
    let docs : List (Plain × Plain) = documents_of c.args.after.now in
    let keyed = keyed_spot c.args.self.now.order.index in
    if_ok_to (λ (s : LimitStep) h. stands_item l keyed c.args.self.now.elements (told c.args.change.now) docs c.requires.stands (seen_step s)
    (stays_differs l keyed c.args.self.now.elements (told c.args.change.now) docs c.requires.stands (option_map seen c.in_ok-come.come) (seen_step s) (rw c.in-None.is at c.in_ok-left.ensures.absent) c.in_ok-come.ensures h)) c.unmoved.result c.unmoved.ensures

pub returns-in-None-clause-installs : goal.returns-in-None-clause-installs
returns-in-None-clause-installs g c =
    let l : Limit = limit_of c.args.self.now in
    let docs : List (Plain × Plain) = documents_of c.args.after.now in
    let keyed = keyed_spot c.args.self.now.order.index in
    if_ok_to (λ (s : LimitStep) h. stands_installs l keyed c.args.self.now.elements (told c.args.change.now) docs c.requires.stands (seen_step s)
    (stays_differs l keyed c.args.self.now.elements (told c.args.change.now) docs c.requires.stands (option_map seen c.in_ok-come.come) (seen_step s) (rw c.in-None.is at c.in_ok-left.ensures.absent) c.in_ok-come.ensures h)) c.unmoved.result c.unmoved.ensures

pub exchanged-requires-clause-rising : goal.exchanged-requires-clause-rising
exchanged-requires-clause-rising g c = stands_rising (limit_of c.args.self.now) (keyed_spot c.args.self.now.order.index) c.args.self.now.elements (told c.args.change.now) (documents_of c.args.after.now) c.requires.stands

pub returns-in-Some-come-clause-item : goal.returns-in-Some-come-clause-item
returns-in-Some-come-clause-item g c =
    let l : Limit = limit_of c.args.self.now in
    let docs : List (Plain × Plain) = documents_of c.args.after.now in
    let keyed = keyed_spot c.args.self.now.order.index in
    if_ok_to (λ (s : LimitStep) h. stands_item l keyed c.args.self.now.elements (told c.args.change.now) docs c.requires.stands (seen_step s)
    (exchange_differs l keyed c.args.self.now.elements (told c.args.change.now) docs c.requires.stands c.in-Some.from (seen c.in-Some-come.came) (seen_step s) (rw c.in-Some.is at c.in_ok-left.ensures.hit) (rw c.in-Some-come.is at c.in_ok-come.ensures) h)) c.exchanged.result c.exchanged.ensures

pub returns-in_ok-next-in-None-come-clause-item : goal.returns-in_ok-next-in-None-come-clause-item
returns-in_ok-next-in-None-come-clause-item g c =
    let l : Limit = limit_of c.args.self.now in
    let docs : List (Plain × Plain) = documents_of c.args.after.now in
    let keyed = keyed_spot c.args.self.now.order.index in
    if_ok_to (λ (s : LimitStep) h. stands_item l keyed c.args.self.now.elements (told c.args.change.now) docs c.requires.stands (seen_step s)
    (leave_differs l keyed c.args.self.now.elements (told c.args.change.now) docs c.requires.stands (bounds_convex (bounds_in c.args.self.now.order)) c.in-Some.from (option_map seen c.in_ok-next-in-None-come.next) (seen_step s) (low, low) (rw c.in-Some.is at c.in_ok-left.ensures.hit) (rw c.in-Some.is at c.in_ok-left.ensures.within) (rw c.in-None-come.is at c.in_ok-come.ensures)
    c.in_ok-next-in-None-come.ensures.follows h)) c.followed.result c.followed.ensures

pub returns-in-Some-come-clause-installs : goal.returns-in-Some-come-clause-installs
returns-in-Some-come-clause-installs g c =
    let l : Limit = limit_of c.args.self.now in
    let docs : List (Plain × Plain) = documents_of c.args.after.now in
    let keyed = keyed_spot c.args.self.now.order.index in
    if_ok_to (λ (s : LimitStep) h. stands_installs l keyed c.args.self.now.elements (told c.args.change.now) docs c.requires.stands (seen_step s)
    (exchange_differs l keyed c.args.self.now.elements (told c.args.change.now) docs c.requires.stands c.in-Some.from (seen c.in-Some-come.came) (seen_step s) (rw c.in-Some.is at c.in_ok-left.ensures.hit) (rw c.in-Some-come.is at c.in_ok-come.ensures) h)) c.exchanged.result c.exchanged.ensures

pub returns-in_ok-next-in-None-come-clause-installs : goal.returns-in_ok-next-in-None-come-clause-installs
returns-in_ok-next-in-None-come-clause-installs g c =
    let l : Limit = limit_of c.args.self.now in
    let docs : List (Plain × Plain) = documents_of c.args.after.now in
    let keyed = keyed_spot c.args.self.now.order.index in
    if_ok_to (λ (s : LimitStep) h. stands_installs l keyed c.args.self.now.elements (told c.args.change.now) docs c.requires.stands (seen_step s)
    (leave_differs l keyed c.args.self.now.elements (told c.args.change.now) docs c.requires.stands (bounds_convex (bounds_in c.args.self.now.order)) c.in-Some.from (option_map seen c.in_ok-next-in-None-come.next) (seen_step s) (low, low) (rw c.in-Some.is at c.in_ok-left.ensures.hit) (rw c.in-Some.is at c.in_ok-left.ensures.within) (rw c.in-None-come.is at c.in_ok-come.ensures)
    c.in_ok-next-in-None-come.ensures.follows h)) c.followed.result c.followed.ensures
