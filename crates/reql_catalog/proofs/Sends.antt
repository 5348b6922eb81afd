-- A catalogue may go to another thread.
use denote.Param.Send.{IsSend}
use Rattle.reql_catalog.specs.contracts.catalogue.Catalogue as catalogue
use Rattle.reql_catalog.proofs.catalogue.Catalogue.TheSendSync as crosses

pub catalogue_send : IsSend catalogue.the_row
catalogue_send = crosses.the_send
