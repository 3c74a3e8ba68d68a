mod Taking
mod Finding
mod Reports
mod Carried
mod Asking
mod Receiver
