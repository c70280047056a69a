-- Refusals: a file that is not served refuses the start.
use Rattle.std.proofs.Common.{subst, sym}
use Rattle.base_device.specs.{Seen.Change, declared.fault.InputFault.InputFault}
use Rattle.base_device.specs.declared.fault.InputFault.TheVariants as inputs
use Rattle.vault_inventory.specs.declared.fault.InvFault.{InvFault}
use Rattle.vault_inventory.specs.declared.fault.InvFault.TheVariants as inventories
use Rattle.program_report.specs.{declared.exit.Exit.Exit, Exits.stop_of_input, Exits.stop_of_inventory}
use Rattle.agent_system.specs.Refusals.{IsToldOf, RefusesStart}

pub refused_input : (fault : InputFault) (exit : Exit) (errors : Change) → IsToldOf (stop_of_input fault) exit errors → RefusesStart exit errors
refused_input inputs.ReadFailed exit errors told = subst (λ e. RefusesStart e errors) (sym told.0) tt
refused_input inputs.TooLong exit errors told = subst (λ e. RefusesStart e errors) (sym told.0) tt
refused_input inputs.OutOfMemory exit errors told = subst (λ e. RefusesStart e errors) (sym told.0) (told.1 told.0)

pub refused_inventory : (fault : InvFault) (exit : Exit) (errors : Change) → IsToldOf (stop_of_inventory fault) exit errors → RefusesStart exit errors
refused_inventory inventories.NotToml exit errors told = subst (λ e. RefusesStart e errors) (sym told.0) tt
refused_inventory (inventories.MissingKey entry key) exit errors told = subst (λ e. RefusesStart e errors) (sym told.0) tt
refused_inventory (inventories.UnknownKey place) exit errors told = subst (λ e. RefusesStart e errors) (sym told.0) tt
refused_inventory (inventories.BadValue place key) exit errors told = subst (λ e. RefusesStart e errors) (sym told.0) tt
refused_inventory (inventories.Tree entry fault) exit errors told = subst (λ e. RefusesStart e errors) (sym told.0) tt
refused_inventory inventories.OutOfMemory exit errors told = subst (λ e. RefusesStart e errors) (sym told.0) (told.1 told.0)
