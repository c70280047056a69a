-- Exits: the status of the process for each way in which a run ends.
-- Source: this project's own.
use Rattle.std.specs.Prelude.{ℕ}
use Rattle.vault_inventory.specs.declared.fault.InvFault.{InvFault}
use Rattle.vault_inventory.specs.declared.fault.InvFault.TheVariants as inventory
use Rattle.plan_rule.specs.declared.wake.WakeFault.{WakeFault}
use Rattle.plan_rule.specs.declared.wake.WakeFault.TheVariants as wakes
use Rattle.base_device.specs.{declared.fault.InputFault.InputFault, declared.fault.SinkFault.SinkFault}
use Rattle.base_device.specs.declared.fault.InputFault.TheVariants as inputs
use Rattle.base_device.specs.declared.fault.SinkFault.TheVariants as sink
use Rattle.program_report.specs.{declared.exit.Exit.Exit, declared.stop.Stop.Stop}
use Rattle.program_report.specs.declared.exit.Exit.TheVariants as exits
use Rattle.program_report.specs.declared.stop.Stop.TheVariants as stops

abbrev pub exit_code : Exit → ℕ
exit_code exits.Done = 0
exit_code exits.Inventory = 1
exit_code exits.CommandLine = 2
exit_code exits.Unkeepable = 3
exit_code exits.No = 4
exit_code exits.TooLong = 5
exit_code exits.Device = 6
exit_code exits.Memory = 7

abbrev pub exit_of : Stop → Exit
exit_of (stops.Inventory fault) = exits.Inventory
exit_of (stops.Moments fault) = exits.CommandLine
exit_of (stops.FaultWord position) = exits.CommandLine
exit_of stops.TooLong = exits.TooLong
exit_of stops.Read = exits.Device
exit_of stops.Write = exits.Device
exit_of (stops.Broker name) = exits.Device
exit_of (stops.Line number) = exits.Device
exit_of stops.Memory = exits.Memory

-- a fault of a layer below, of which each tells lack of memory apart
abbrev pub stop_of_inventory : InvFault → Stop
stop_of_inventory inventory.OutOfMemory = stops.Memory
stop_of_inventory fault = stops.Inventory fault

abbrev pub stop_of_wakes : WakeFault → Stop
stop_of_wakes wakes.OutOfMemory = stops.Memory
stop_of_wakes fault = stops.Moments fault

abbrev pub stop_of_input : InputFault → Stop
stop_of_input inputs.OutOfMemory = stops.Memory
stop_of_input fault = stops.Read

abbrev pub stop_of_sink : SinkFault → Stop
stop_of_sink sink.Failed = stops.Write
stop_of_sink sink.OutOfMemory = stops.Memory
