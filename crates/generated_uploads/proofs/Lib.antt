mod Bytes
mod Words
mod Lists
mod Headers
mod Served
mod Starts
mod Turns
mod Uploads
